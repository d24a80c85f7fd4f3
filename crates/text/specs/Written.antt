-- What is written into a buffer. Assumes nothing.
use Rattle.std.specs.Prelude.{◌≡◌, ℕ, ◌+◌, List, [], ◌∷◌, ◌++◌, length, take, drop, codes}
use Rattle.text.specs.Lines.{numeral}

-- the buffer with the bytes at `at` on
unfoldable pub written : List ℕ → ℕ → List ℕ → List ℕ
written buffer at bytes = take at buffer ++ (bytes ++ drop (at + length bytes) buffer)

-- the bytes were written at `at`, which made the buffer `after`, and `end` is the place behind them
pub record Wrote (buffer : List ℕ) (at : ℕ) (after : List ℕ) (end : ℕ) (bytes : List ℕ) : Type 0 where
  pub text : after ≡ written buffer at bytes
  pub place : end ≡ at + length bytes

-- session s controls session t
abbrev pub control_line : ℕ → ℕ → List ℕ
control_line s t = codes "control=" ++ numeral s ++ 44 ∷ numeral t ++ 10 ∷ []
