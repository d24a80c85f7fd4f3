use Rattle.sets.specs.declared.set.Set.{Set}
use Rattle.sets.proofs.Words.{Merged}
use Rattle.sets.proofs.set.Set.merge.Given as goal

abbrev pub invariant-loop-j : goal.invariant-loop-j
invariant-loop-j g l =
    let old : Set g.row.W = record { words = l.initial.word-items } in
    let new : Set g.row.W = record { words = l.word-items } in
    Merged l.j old l.other new l.grew
