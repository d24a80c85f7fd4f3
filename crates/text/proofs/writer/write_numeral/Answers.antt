use Rattle.std.proofs.Common.{◌+◌, ap, arith}
use Rattle.text.proofs.Writings.{more, all}
use Rattle.text.proofs.writer.write_numeral.Goals as goal

pub loop-i-preserved : goal.loop-i-preserved
loop-i-preserved c = more c.loop-i.invariant c.loop-i-test.true (omega (arith, c.loop-i.auto.i, c.numeral_len.ensures.value, c.requires)) c.last_digit.ensures

pub returns : goal.returns
returns c = all c.loop-i.invariant c.loop-i-test.false (ap (λ k. c.args.at + k) c.numeral_len.ensures.value)
