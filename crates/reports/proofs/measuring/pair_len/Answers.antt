use Rattle.std.proofs.Common.{length, sym, ap, ◌∙◌, arith}
use Rattle.block.specs.Reading.{state}
use Rattle.reports.proofs.Lines.{listed, unlisted, line_few}
use Rattle.reports.proofs.measuring.pair_len.Goals as goal

pub returns-then-has_pair : goal.returns-then-has_pair
returns-then-has_pair c =
    record {
      value = c.control_line_len.ensures ∙ ap length (sym (listed (state c.args.records.now) c.args.s c.args.t (sym c.if-has_pair.ensures)));
      few = omega (arith, line_few c.args.s c.args.t (omega arith) (omega arith));
    }

pub returns-else-has_pair : goal.returns-else-has_pair
returns-else-has_pair c =
    record {
      value = ap length (sym (unlisted (state c.args.records.now) c.args.s c.args.t (sym c.if-has_pair.ensures)));
      few = omega arith;
    }
