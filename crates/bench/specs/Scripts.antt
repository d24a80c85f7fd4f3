-- How much of a script is left.
use Rattle.std.specs.Prelude.{ℕ, length}
use Rattle.bench.specs.declared.script.Script.{Script}

abbrev pub ahead : Script → ℕ
ahead s = length s.left.now
