use Rattle.std.proofs.Common.{[], ◌∷◌, sym, ap, ◌∙◌, subst}
use Rattle.text.specs.Walks.{Walk}
use Rattle.start.specs.Setup.{with, listed}
use Rattle.start.proofs.second.fill.Goals as goal

pub loop-line-init : goal.loop-line-init
loop-line-init c = λ ls a e. ([], subst (λ r. Walk ls r []) (sym c.into_iter-line-iterator.ensures.into_iter_gives) (c.lines-line-items.ensures ls a), e)

pub loop-line-preserved : goal.loop-line-preserved
loop-line-preserved c = λ ls a e.
    let inv = c.loop-line.invariant ls a e in
    (c.in-Some.line ∷ inv.0, c.in-Some.ensures.steps.walk ls inv.0 inv.1, c.define.ensures ∙ ap (with c.in-Some.line) inv.2)

pub returns : goal.returns
returns c = λ ls a e. let inv = c.loop-line.invariant ls a e in inv.2 ∙ ap listed (c.in-None.ensures.steps.walk ls inv.0 inv.1)
