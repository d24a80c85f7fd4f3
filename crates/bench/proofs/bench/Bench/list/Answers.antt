use Rattle.std.proofs.Common.{vec_items, sym, ◌∙◌}
use Rattle.bench.proofs.Keeping.{accepted}
use Rattle.bench.proofs.bench.Bench.list.Goals as goal

pub returns-in_ok-keep_each : goal.returns-in_ok-keep_each
returns-in_ok-keep_each g c =
    let each = c.in_ok-keep_each.ensures in
    let outcome = c.list-answer.ensures.outcome in
    record {
      outcome = rw each.block outcome;
      given = accepted {gs' = vec_items c.keep_each.new.self.given} (vec_items c.args.self.now.given) outcome (sym c.is_ok.ensures.value ∙ c.if-is_ok.true) each.given;
    }
