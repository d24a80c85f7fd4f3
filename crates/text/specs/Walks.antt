-- A walk over the lines of a text. Assumes nothing.
use Rattle.std.specs.Prelude.{◌≡◌, ℕ, ◌<◌, true, List, ◌∷◌, ◌++◌, length, Option, IfSome, MatchOption, OnSome}
use Rattle.text.specs.declared.reader.Reader.{Reader}
use Rattle.text.specs.declared.record.Line.{Line}
use Rattle.text.specs.Lines.{text, Sound, in_range}
use Rattle.text.specs.Rest.{rest}

-- of the sound lines ls, the reader has read the lines `done`, and has still to read those later
pub record Walk (ls : List Line) (r : Reader) (done : List Line) : Type 0 where
  pub sound : Sound ls
  pub later : List Line
  pub lines : ls ≡ later ++ done
  pub left : rest r ≡ text later
  pub count : r.lines ≡ length done

-- the reader r gives its next line with its number, if one comes, and is then t
pub record WalksOn (r : Reader) (next : Option (ℕ × Line)) (t : Reader) : Type 0 where
  pub shorter : OnSome next (length (rest t) < length (rest r))
  pub ranged : IfSome next (λ l. in_range l.1 ≡ true)
  pub number : IfSome next (λ l. l.0 ≡ t.lines)
  pub walk : (ls done : List Line) → Walk ls r done → MatchOption next (done ≡ ls) (λ l. Walk ls t (l.1 ∷ done))
