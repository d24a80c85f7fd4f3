-- What a bench keeps for a replay.
use Rattle.std.specs.Prelude.{◌≡◌, List, ◌++◌, vec_items}
use Rattle.model.specs.Answers.{Answer}
use Rattle.model.specs.declared.request.Request.{Request}
use Rattle.model.specs.Laws.{kept}
use Rattle.bench.specs.declared.bench.Bench.{Bench}

-- behind what it kept before, those of the requests that were accepted and give
abbrev pub Keeps : Bench → List Request → List Answer → Bench → Type 0
Keeps b qs ans b' = vec_items b'.given ≡ vec_items b.given ++ kept qs ans
