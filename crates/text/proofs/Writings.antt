-- One writing behind another. Assumes nothing.
use Rattle.std.proofs.Common.{◌≡◌, ℕ, suc, ◌+◌, ◌-◌, ◌/◌, ◌%◌, ◌<◌, ◌≤◌, List, [], ◌∷◌, ◌++◌, length, get_or, take, drop, set, sym, refl, ap, ◌∙◌, append_assoc, append-nil, arith, length-append, take-append-drop}
use lib.Seq.{paste}
use Rattle.std.proofs.lemmas.List.Edits.{paste_all, paste-paste}
use Rattle.std.proofs.lemmas.List.{take_more, length-take-le, set_at}
use Rattle.text.specs.Lines.{numeral}
use Rattle.text.specs.Written.{written, Wrote}
use Rattle.text.proofs.Digits.{last, numeral_last}

pub as_paste : (buffer : List ℕ) (at : ℕ) (bytes : List ℕ) → written buffer at bytes ≡ paste buffer at bytes (length bytes)
unfolding written
as_paste buffer at bytes = sym (paste_all buffer at bytes (length bytes) refl)

written_none : (buffer : List ℕ) (at : ℕ) → written buffer at [] ≡ buffer
unfolding written
written_none buffer at = let none : at + 0 ≡ at = omega arith in ap (λ k. take at buffer ++ drop k buffer) none ∙ take-append-drop at buffer

-- two writings are one of both
written_on : (buffer : List ℕ) (at : ℕ) (xs ys : List ℕ) → at ≤ length buffer → written (written buffer at xs) (at + length xs) ys ≡ written buffer at (xs ++ ys)
written_on buffer at xs ys h =
    as_paste (written buffer at xs) (at + length xs) ys
    ∙ ap (λ t. paste t (at + length xs) ys (length ys)) (as_paste buffer at xs)
    ∙ paste-paste buffer at xs ys (length xs) (length ys) refl refl h
    ∙ ap (λ k. paste buffer at (xs ++ ys) k) (sym (length-append xs ys))
    ∙ sym (as_paste buffer at (xs ++ ys))

pub wrote_none : (buffer : List ℕ) (at : ℕ) → Wrote buffer at buffer at []
wrote_none buffer at = record { text = sym (written_none buffer at); place = omega arith }

pub wrote_on : {buffer now after : List ℕ} {at p q : ℕ} {xs ys : List ℕ} → at ≤ length buffer → Wrote buffer at now p xs → Wrote now p after q ys → Wrote buffer at after q (xs ++ ys)
wrote_on {buffer} {now} {after} {at} {p} {q} {xs} {ys} h a b = record {
  text = b.text ∙ (λ i. written (a.text i) (a.place i) ys) ∙ written_on buffer at xs ys h;
  place = omega (arith, a.place, b.place, length-append xs ys);
}

-- A number, from its last digit on

-- the digits of n from place i on are written, and those of `left` are not
pub record Sofar (buffer : List ℕ) (at end n : ℕ) (now : List ℕ) (i left : ℕ) : Type 0 where
  pub low : at ≤ i
  pub done : List ℕ
  pub digits : last (end - at) n ≡ last (i - at) left ++ done
  pub text : now ≡ take i buffer ++ (done ++ drop end buffer)

pub start : (buffer : List ℕ) (at end n : ℕ) → at ≤ end → Sofar buffer at end n buffer end n
start buffer at end n h = record { low = h; done = []; digits = sym (append-nil (last (end - at) n)); text = sym (take-append-drop end buffer) }

-- one place of the front is the next to be written
put : (buffer : List ℕ) (j d : ℕ) (more : List ℕ) → j < length buffer → set (take (j + 1) buffer ++ more) j d ≡ take j buffer ++ d ∷ more
put buffer j d more h =
    ap (λ t. set (t ++ more) j d) (take_more buffer j 0 h)
    ∙ ap (λ t. set t j d) (append_assoc (take j buffer) (get_or buffer j 0 ∷ []) more)
    ∙ set_at (take j buffer) (get_or buffer j 0) more d j (length-take-le j buffer (omega arith))

module _ {buffer : List ℕ} {at end n : ℕ} {now : List ℕ} {i left : ℕ} (s : Sofar buffer at end n now i left) where
  pub more : {d : ℕ} → at < i → i ≤ length buffer → d ≡ 48 + left % 10 → Sofar buffer at end n (set now (i - 1) d) (i - 1) (left / 10)
  more {d} h k is =
      let one : i - at ≡ suc (i - 1 - at) = omega arith in
      let here : i ≡ i - 1 + 1 = omega arith in
      record {
        low = omega arith;
        done = d ∷ s.done;
        digits = s.digits ∙ ap (λ m. last m left ++ s.done) one ∙ ap (λ e. (last (i - 1 - at) (left / 10) ++ e ∷ []) ++ s.done) (sym is) ∙ append_assoc (last (i - 1 - at) (left / 10)) (d ∷ []) s.done;
        text = ap (λ t. set t (i - 1) d) (s.text ∙ ap (λ m. take m buffer ++ (s.done ++ drop end buffer)) here) ∙ put buffer (i - 1) d (s.done ++ drop end buffer) (omega arith);
      }

  pub all : i ≤ at → end ≡ at + length (numeral n) → Wrote buffer at now end (numeral n)
  unfolding written
  all h e =
      let none : i - at ≡ 0 = omega arith in
      let here : i ≡ at = omega (arith, s.low) in
      let long : end - at ≡ length (numeral n) = omega arith in
      let is : s.done ≡ numeral n = sym (numeral_last n ∙ ap (λ m. last m n) (sym long) ∙ s.digits ∙ ap (λ m. last m left ++ s.done) none) in
      record { text = s.text ∙ (λ j. take (here j) buffer ++ (is j ++ drop (e j) buffer)); place = e }
