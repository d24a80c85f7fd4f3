use Rattle.std.proofs.Common.{◌≡◌, ◌∷◌, true, sym, ◌∙◌, subst}
use Rattle.std.proofs.lemmas.Bool.{both_ways}
use Rattle.text.specs.Lines.{in_range}
use Rattle.text.specs.Walks.{Walk}
use Rattle.text.proofs.Firsts.{shorter}
use Rattle.text.proofs.Ranges.{range_held}
use Rattle.text.proofs.Walks.{ranged, fits, line_kept, ended, on, met}
use Rattle.text.proofs.walk.ReaderIterator.next.Goals as goal

pub returns-in_err-e-clause-steps : goal.returns-in_err-e-clause-steps
returns-in_err-e-clause-steps c = rw c.from_residual.ensures (record { shorter = tt; ranged = tt; number = tt; walk = λ ls done w. ended w c.in_err-e.ensures })

pub returns-then-not-in_range-clause-steps : goal.returns-then-not-in_range-clause-steps
returns-then-not-in_range-clause-steps c = record {
  shorter = tt;
  ranged = tt;
  number = tt;
  walk = λ ls done w.
      let got = c.in_ok-e.ensures in
      absurd (both_ways _ (sym c.if-not-in_range.ensures) (range_held _ _ got.0.kept ∙ met (on w {s = c.next_entry.new.reader} got.0 got.1)));
}

pub line_of-requires : goal.line_of-requires
line_of-requires c = fits c.in_ok-e.ensures.0.kept (sym c.if-not-in_range.ensures)

pub returns-clause-steps : goal.returns-clause-steps
returns-clause-steps c =
    let got = c.in_ok-e.ensures in
    let here = sym c.if-not-in_range.ensures in
    let is = sym (c.line_of.ensures ∙ line_kept got.0.kept here) in
    record {
      shorter = shorter got.0;
      ranged = subst (λ l. in_range l ≡ true) is (ranged got.0.kept here);
      number = c.lines.ensures;
      walk = λ ls done w. subst (λ l. Walk ls c.next_entry.new.reader (l ∷ done)) is (on w got.0 got.1);
    }
