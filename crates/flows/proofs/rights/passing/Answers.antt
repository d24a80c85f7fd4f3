use Rattle.std.proofs.Common.{ℕ, ◌+◌, sym, subst}
use Rattle.std.proofs.lemmas.Bool.Decides.{not_from_Decides}
use Rattle.model.specs.Needs.{Passes}
use Rattle.block.specs.Reading.{state}
use Rattle.flows.proofs.Ways.{Chosen, chosen_in, chosen_out}
use Rattle.flows.proofs.rights.passing.Goals as goal
use Rattle.flows.proofs.rights.passing.Goals.{then-passes, else-passes}

pub loop-c-preserved : goal.loop-c-preserved
loop-c-preserved g c =
    let P : ℕ → Type 0 = Passes (g.O.LevelOrder.meaning c.args.order.now) (state c.args.records.now) c.args.x in
    elim c.if-passes.branch [
      | then-passes w ↦
          subst (Chosen P (c.loop-c.c + 1)) (sym w.all-is)
          (chosen_in P c.loop-c.c c.loop-c.all w.insert.new.self (c.passes.ensures.0 w.if-passes.true) w.insert.ensures.members c.loop-c.invariant)
      | else-passes w ↦
          subst (Chosen P (c.loop-c.c + 1)) (sym w.all-is)
          (chosen_out P c.loop-c.c c.loop-c.all (not_from_Decides {P = P c.loop-c.c} c.passes.result c.passes.ensures w.if-passes.false) c.loop-c.invariant)
    ]
