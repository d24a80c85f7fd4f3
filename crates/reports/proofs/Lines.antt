-- The lines of lists one behind the other.
use Rattle.std.proofs.Common.{◌≡◌, ℕ, zero, suc, ◌+◌, ◌-◌, ◌^◌, ◌<◌, ◌≤◌, true, false, List, [], ◌∷◌, ◌++◌, length, sym, refl, ap, ◌∙◌, subst, append_assoc, append-nil, arith, length-append}
use Rattle.std.proofs.lemmas.Bool.{cond-true, cond-false}
use Rattle.model.specs.Records.{State}
use Rattle.text.specs.Written.{Wrote, control_line}
use Rattle.text.proofs.Digits.{numeral_few}
use Rattle.text.proofs.Reports.{control_length}
use Rattle.text.proofs.Writings.{wrote_none, wrote_on}
use Rattle.reports.specs.Report.{controls, up_to, pair, lines}

-- ## One pair

module _ (S : State) (s t : ℕ) where
  pub listed : controls S s t ≡ true → lines (pair S s t) ≡ control_line s t
  unfolding lines
  listed h = ap lines (cond-true (controls S s t) ((s, t) ∷ []) [] h) ∙ append-nil (control_line s t)

  pub unlisted : controls S s t ≡ false → lines (pair S s t) ≡ []
  unfolding lines
  unlisted h = ap lines (cond-false (controls S s t) ((s, t) ∷ []) [] h)

pub line_few : (s t : ℕ) → s < 2 ^ 32 → t < 2 ^ 32 → length (control_line s t) ≤ 30
line_few s t hs ht = omega (arith, control_length s t, numeral_few s hs, numeral_few t ht)

-- ## One list behind another

lines_append : (ps qs : List (ℕ × ℕ)) → lines (ps ++ qs) ≡ lines ps ++ lines qs
unfolding lines
lines_append [] qs = refl
lines_append (p ∷ ps) qs =
    ap (λ l. control_line p.0 p.1 ++ l) (lines_append ps qs) ∙ sym (append_assoc (control_line p.0 p.1) (lines ps) (lines qs))

module _ (f : ℕ → List (ℕ × ℕ)) where
  -- the lines of the lists below n
  abbrev pub below : ℕ → List ℕ
  below n = lines (up_to (n - 1) f)

  pub length_none : length (below 1) ≡ 0
  unfolding up_to lines
  length_none = refl

  pub wrote_first : (buffer : List ℕ) (at : ℕ) → Wrote buffer at buffer at (below 1)
  unfolding up_to lines
  wrote_first buffer at = wrote_none buffer at

  lines_more : (n : ℕ) → 1 ≤ n → below (n + 1) ≡ below n ++ lines (f n)
  unfolding up_to
  lines_more zero h = absurd (omega arith)
  lines_more (suc n) h =
      let same : suc n + 1 - 1 ≡ suc n = omega arith in
      let less : n ≡ suc n - 1 = omega arith in
      ap (λ k. lines (up_to k f)) same ∙ lines_append (up_to n f) (f (suc n)) ∙ ap (λ k. lines (up_to k f) ++ lines (f (suc n))) less

  pub length_more : (n : ℕ) → 1 ≤ n → length (below (n + 1)) ≡ length (below n) + length (lines (f n))
  length_more n h = ap length (lines_more n h) ∙ length-append (below n) (lines (f n))

  grows : (n k : ℕ) → length (lines (up_to n f)) ≤ length (lines (up_to (k + n) f))
  unfolding up_to
  grows n zero = let same : n ≡ 0 + n = omega arith in subst (λ (m : ℕ). length (lines (up_to n f)) ≤ length (lines (up_to m f))) same (omega arith)
  grows n (suc k) =
      let same : suc (k + n) ≡ suc k + n = omega arith in
      subst (λ (m : ℕ). length (lines (up_to n f)) ≤ length (lines (up_to m f))) same
      (omega (arith, grows n k, ap length (lines_append (up_to (k + n) f) (f (suc (k + n)))), length-append (lines (up_to (k + n) f)) (lines (f (suc (k + n))))))

  -- the lists from 1 to m have room for those below n and for that of n
  pub length_within : (m n : ℕ) → 1 ≤ n → n ≤ m → length (below n) + length (lines (f n)) ≤ length (lines (up_to m f))
  length_within m n h k =
      let same : n + 1 - 1 ≡ n = omega arith in
      let all : m - n + n ≡ m = omega arith in
      let more : length (lines (up_to n f)) ≤ length (lines (up_to m f)) = subst (λ (j : ℕ). length (lines (up_to n f)) ≤ length (lines (up_to j f))) all (grows n (m - n)) in
      omega (arith, length_more n h, ap (λ j. length (lines (up_to j f))) same)

  pub wrote_more : {buffer now after : List ℕ} {at p q : ℕ} (n : ℕ) → 1 ≤ n → at ≤ length buffer → Wrote buffer at now p (below n) → Wrote now p after q (lines (f n)) → Wrote buffer at after q (below (n + 1))
  wrote_more {buffer} {now} {after} {at} {p} {q} n h k done next = subst (λ (l : List ℕ). Wrote buffer at after q l) (sym (lines_more n h)) (wrote_on k done next)
