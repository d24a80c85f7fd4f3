-- Lines of a key and numbers behind it. Assumes nothing.
use Rattle.std.specs.Prelude.{◌≡◌, ℕ, ◌^◌, ◌<◌, List, ◌++◌, length, codes}
use Rattle.std.specs.List.{AllByRecursion}
use Rattle.text.specs.Lines.{commas}

-- each number is below 2 ^ 32
abbrev pub Narrow : List ℕ → Type 0
Narrow ns = AllByRecursion (λ n. n < 2 ^ 32) ns

-- the line, without a byte 10, is the key and then n numbers below 2 ^ 32
pub record Keyed (key : List ℕ) (n : ℕ) (line ns : List ℕ) : Type 0 where
  pub text : line ≡ key ++ commas ns
  pub long : length ns ≡ n
  pub narrow : Narrow ns

-- the line, without a byte 10, is a request of these eight numbers
abbrev pub Request : List ℕ → List ℕ → Type 0
Request = Keyed (codes "request=") 8
