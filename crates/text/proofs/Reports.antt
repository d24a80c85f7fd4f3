-- The lines of a report. Assumes nothing.
use Rattle.std.proofs.Common.{◌≡◌, ℕ, ◌+◌, [], ◌∷◌, ◌++◌, length, codes, arith, length-append}
use Rattle.text.specs.Lines.{numeral}
use Rattle.text.specs.Written.{control_line}

pub control_length : (s t : ℕ) → length (control_line s t) ≡ 8 + length (numeral s) + 1 + length (numeral t) + 1
control_length s t =
    omega (arith, length-append (codes "control=" ++ numeral s ++ 44 ∷ numeral t) (10 ∷ []), length-append (codes "control=" ++ numeral s) (44 ∷ numeral t), length-append (codes "control=") (numeral s))
