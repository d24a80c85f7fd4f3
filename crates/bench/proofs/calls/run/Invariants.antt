use Rattle.bench.specs.Scripts.{ahead}
use Rattle.bench.proofs.calls.run.Given as goal

abbrev pub decreases-loop-line : goal.decreases-loop-line
decreases-loop-line g l = ahead l.script
