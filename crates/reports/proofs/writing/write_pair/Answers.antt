use Rattle.std.proofs.Common.{ℕ, List, length, sym, ap, subst, arith}
use Rattle.block.specs.Reading.{state}
use Rattle.text.specs.Written.{Wrote}
use Rattle.text.proofs.Writings.{wrote_none}
use Rattle.reports.proofs.Lines.{listed, unlisted}
use Rattle.reports.proofs.writing.write_pair.Goals as goal

pub write_control_line-requires : goal.write_control_line-requires
write_control_line-requires c =
    omega (arith, c.requires, ap length (listed (state c.args.records.now) c.args.s c.args.t (sym c.if-has_pair.ensures)))

pub returns-then-has_pair : goal.returns-then-has_pair
returns-then-has_pair c =
    subst (λ (l : List ℕ). Wrote c.args.buffer.now c.args.at c.write_control_line.new.buffer c.write_control_line.result l)
    (sym (listed (state c.args.records.now) c.args.s c.args.t (sym c.if-has_pair.ensures))) c.write_control_line.ensures

pub returns-else-has_pair : goal.returns-else-has_pair
returns-else-has_pair c =
    subst (λ (l : List ℕ). Wrote c.args.buffer.now c.args.at c.args.buffer.now c.args.at l)
    (sym (unlisted (state c.args.records.now) c.args.s c.args.t (sym c.if-has_pair.ensures))) (wrote_none c.args.buffer.now c.args.at)
