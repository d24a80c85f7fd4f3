-- What the lines of a script say.
use Rattle.std.specs.Prelude.{◌≡◌, ℕ, ◌≤◌, List, [], ◌∷◌, codes}
use Rattle.text.specs.Requests.{Keyed, Request as RequestLine}
use Rattle.bench.specs.declared.command.Command.{Command}
use Rattle.bench.specs.declared.command.Command.TheVariants as command

-- the line, without a byte 10, says the command
abbrev pub Says : List ℕ → Command → Type 0
Says line command.Start = line ≡ codes "start"
Says line (command.Request q) = RequestLine line (q.k ∷ q.x ∷ q.v ∷ q.r ∷ q.y ∷ q.z ∷ q.l ∷ q.m ∷ [])
Says line (command.List n) = Keyed (codes "list=") 1 line (n ∷ [])
Says line (command.Question q) = Keyed (codes "question=") 4 line (q.q ∷ q.a ∷ q.b ∷ q.m ∷ [])
Says line (command.Report n) = Keyed (codes "report=") 1 line (n ∷ []) × (n ≤ 1048576)
Says line command.Replay = line ≡ codes "replay"
