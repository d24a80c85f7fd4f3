-- The first reading, line by line. Assumes nothing.
use Rattle.std.proofs.Common.{◌≡◌, ℕ, ◌+◌, ◌<◌, ◌≤◌, List, [], ◌∷◌, ◌++◌, length, sym, refl, ap, ◌∙◌, inr, append_assoc, add-one, arith, length-append}
use Rattle.std.proofs.lemmas.List.{length_push}
use Rattle.text.specs.declared.record.Line.{Line}
use Rattle.text.specs.declared.record.Entry.{Entry}
use Rattle.text.specs.declared.record.Fault.{Fault}
use Rattle.text.specs.declared.record.Fault.TheVariants.{Size, Form, Order, Range}
use Rattle.text.specs.Lines.{body, line_text, text, Sound, Malformed, Misplaced, OutOfRange, StopsAt, Refused, follows, in_range}
use Rattle.text.specs.Post.{Reads, Next, Wrong, entry_follows, entry_in_range}
use Rattle.text.proofs.Ranges.{Last, small, follows_held, range_held}

-- n lines are read, and `left` is left
pub record Sofar (bytes left : List ℕ) (n : ℕ) (last : Entry) : Type 0 where
  pub size : length bytes ≤ 32768
  pub lines : List Line
  pub whole : bytes ≡ text lines ++ left
  pub sound : Sound lines
  pub count : n ≡ length lines
  pub kept : Last lines last

pub start : (bytes : List ℕ) (last : Entry) → length bytes ≤ 32768 → Sofar bytes bytes 0 last
start bytes last h = record { size = h; lines = []; whole = refl; sound = tt; count = refl; kept = tt }

-- a line is not empty
pub shorter : {bytes after : List ℕ} {e : Entry} → Reads bytes e after → length after < length bytes
shorter {bytes} {after} r = omega (arith, ap length r.text, length-append (line_text r.line) after, length_push (body r.line) 10)

module _ {bytes left : List ℕ} {n : ℕ} {last : Entry} (s : Sofar bytes left n last) where
  stop : (faulty : List Line → List ℕ → Type 0) → faulty s.lines left → StopsAt bytes (n + 1) faulty
  stop faulty f = record { size = s.size; lines = s.lines; left = left; whole = s.whole; sound = s.sound; next = ap (λ k. k + 1) s.count; fault = f }

  module _ {after : List ℕ} {e : Entry} (r : Reads left e after) where
    placed : entry_follows n last e ≡ follows s.lines r.line
    placed = ap (λ k. entry_follows k last e) s.count ∙ follows_held s.lines last e r.line s.kept r.kept

    ranged : entry_in_range e ≡ in_range r.line
    ranged = range_held e r.line r.kept

  pub refused : (f : Fault) → 0 < length left → Wrong f n last left → Refused bytes f (n + 1)
  refused Size some w = absurd w
  refused Form some w = stop Malformed (some, w)
  refused Order some w = stop Misplaced (inr (w.2.line, (w.1, w.2.text), sym (placed w.2) ∙ w.3))
  refused Range some w = stop OutOfRange (w.2.line, (w.1, w.2.text), sym (placed w.2) ∙ w.3, sym (ranged w.2) ∙ w.4)

  pub more : {after : List ℕ} {e : Entry} {m : ℕ} → Next n last left e after → m ≡ n + 1 → Sofar bytes after m e
  more {after} x next =
      let r = x.reads in
      let here = sym (ranged r) ∙ x.ranged in
      record {
        size = s.size;
        lines = r.line ∷ s.lines;
        whole = s.whole ∙ ap (λ t. text s.lines ++ t) r.text ∙ sym (append_assoc (text s.lines) (line_text r.line) after);
        sound = (sym (placed r) ∙ x.placed, here, s.sound);
        count = next ∙ ap (λ j. j + 1) s.count ∙ add-one (length s.lines);
        kept = (r.kept, small r.line here);
      }
