use Rattle.std.proofs.Common.{sym, arith}
use Rattle.text.proofs.Digits.{numeral_log}
use Rattle.text.proofs.writer.numeral_len.Goals as goal

pub returns-in-0-to-9-clause-value : goal.returns-in-0-to-9-clause-value
returns-in-0-to-9-clause-value c = sym (numeral_log 0 c.args.n (omega (arith, c.in-0-to-9)) (omega (arith, c.in-0-to-9)))

pub returns-in-10-to-99-clause-value : goal.returns-in-10-to-99-clause-value
returns-in-10-to-99-clause-value c = sym (numeral_log 1 c.args.n (omega (arith, c.in-10-to-99)) (omega (arith, c.in-10-to-99)))

pub returns-in_default-clause-value : goal.returns-in_default-clause-value
returns-in_default-clause-value c =
    sym (numeral_log c.ilog10.result c.args.n (omega (arith, c.in_default, c.ilog10.ensures.power_le)) (omega (arith, c.in_default, c.ilog10.ensures.next_power_gt)))
