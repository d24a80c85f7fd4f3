use Rattle.std.proofs.Common.{Some, None, sym, subst}
use Rattle.std.proofs.lemmas.Slice.Eq.{strip_prefix_is}
use Rattle.text.specs.Requests.{Narrow, Keyed}
use Rattle.text.proofs.Options.{weaker}
use Rattle.text.proofs.Requests.{no_front, beyond, keyed}
use Rattle.text.proofs.request.numbers_of.Goals as goal
use Rattle.std.proofs.lemmas.Bool.Decides.{Decides-eqb}

pub returns-in_err-list : goal.returns-in_err-list
returns-in_err-list g c =
    rw c.from_residual.ensures
    (no_front (strip_prefix_is Decides-eqb c.args.line.now c.args.key.now None c.in_err-list.ensures.cases))

pub returns : goal.returns
returns g c =
    let cut = strip_prefix_is Decides-eqb c.args.line.now c.args.key.now (Some c.in_ok-list.list) c.in_ok-list.ensures.cases in
    let row = c.in_ok-numbers.ensures in
    weaker c.narrowed.result (beyond {left = c.in_ok-list.list.now} {n = g.row.N} cut row)
    (λ ns h. subst (Keyed c.args.key.now g.row.N c.args.line.now) (sym h.0) (keyed {left = c.in_ok-list.list.now} {n = g.row.N} cut row (subst Narrow h.0 h.1)))
    c.narrowed.ensures
