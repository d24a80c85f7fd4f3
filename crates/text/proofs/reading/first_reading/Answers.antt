use Rattle.std.proofs.Common.{◌<◌, length, sym, subst, arith, rules}
use Rattle.std.proofs.lemmas.Bool.{eqb-false}
use Rattle.text.specs.Lines.{Refused}
use Rattle.text.specs.Rest.{rest}
use Rattle.text.proofs.Firsts.{refused, more}
use Rattle.text.proofs.reading.first_reading.Goals as goal

pub loop-last-preserved : goal.loop-last-preserved
loop-last-preserved c = more c.loop-last.invariant c.in_ok-last.ensures.0 c.in_ok-last.ensures.1

pub returns-in_err-last : goal.returns-in_err-last
returns-in_err-last c =
    let wrong = c.in_err-last.ensures in
    let some : 0 < length (rest c.loop-last.reader) = omega (arith, eqb-false _ 0 (sym c.loop-last-test.ensures)) in
    let r = c.in_err-last.field-0.0 in
    let this : Refused c.args.text.now r.fault r.line = subst (Refused c.args.text.now r.fault) (sym (wrong.1 some)) (refused c.loop-last.invariant r.fault some wrong.0) in
    search rules
