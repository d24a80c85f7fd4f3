use Rattle.std.proofs.Common.{◌<◌, length, sym, arith}
use Rattle.std.proofs.ByRecursion.{All-more}
use Rattle.std.proofs.lemmas.Bool.{eqb-true, eqb-false}
use Rattle.text.proofs.Numerals.{Digit, zero_led, not_led, not_numeral, not_digit, held_more, writes}
use Rattle.text.proofs.numbers.number.Goals as goal

pub returns-then-is_empty : goal.returns-then-is_empty
returns-then-is_empty c = not_numeral _ (λ p. omega (arith, p.some, eqb-true _ 0 (sym c.if-is_empty.ensures)))

pub returns-then-has_leading_zero : goal.returns-then-has_leading_zero
returns-then-has_leading_zero c = zero_led _ (sym c.if-has_leading_zero.ensures)

pub returns-then-not-is_ascii_digit : goal.returns-then-not-is_ascii_digit
returns-then-not-is_ascii_digit c = not_digit _ c.loop-b.b-index c.loop-b-test.true (λ d. grind (arith, c.if-not-is_ascii_digit.ensures.cases))

pub loop-b-preserved : goal.loop-b-preserved
loop-b-preserved c =
    let here : Digit _ = c.if-not-is_ascii_digit.ensures.cases in (
      All-more Digit _ _ 0 c.loop-b-test.true c.loop-b.invariant.0 here,
      held_more _ _ _ _ _ c.loop-b-test.true (omega arith) here c.loop-b.invariant.1 c.min-n.ensures,
    )

pub returns : goal.returns
returns c =
    let some : 0 < length c.args.s.now = omega (arith, eqb-false _ 0 (sym c.if-is_empty.ensures)) in
    writes _ _ _ c.loop-b-test.false some (not_led _ (sym c.if-has_leading_zero.ensures)) c.loop-b.invariant.0 c.loop-b.invariant.1
