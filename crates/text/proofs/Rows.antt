-- Numbers with commas between, read one by one. Assumes nothing.
use Rattle.std.proofs.Common.{◌≡◌, ℕ, zero, suc, ◌+◌, ◌-◌, ◌<◌, ◌≤◌, List, [], ◌∷◌, ◌++◌, length, get_or, set, drop, replicate, sym, refl, ap, ◌∙◌, subst, ⊎_elim, append_assoc, arith, length-append, length-set}
use lib.ListN.{length-replicate}
use Rattle.std.proofs.lemmas.List.{drop-replicate, get_or-set_same, get_or-set_other, get_or_append_left, get_or_push, length_push, get_or_past}
use Rattle.std.proofs.lemmas.Bool.{cases_eq, cases_lt}
use Rattle.text.specs.Cut.{Lacks, CutAt}
use Rattle.text.specs.Lines.{numeral, commas}
use Rattle.text.specs.Post.{Writes, Holds, NoRow, Row, capped}
use Rattle.text.proofs.Cuts.{cut_same, uncut}
use Rattle.text.proofs.Numerals.{numeral_same, numeral_lacks}

-- the first i of count numbers are read from `whole`, into the front of vs, and `left` is left
pub record Sofar (whole left : List ℕ) (count size i : ℕ) (vs : List ℕ) : Type 0 where
  pub values : List ℕ
  pub long : length values ≡ i
  pub places : length vs ≡ size
  pub held : Holds vs values
  pub on : (ms : List ℕ) → 0 < length ms → left ≡ commas ms → whole ≡ commas (values ++ ms)
  pub back : (ks : List ℕ) → length ks ≡ count → whole ≡ commas ks → (ms : List ℕ) × (ks ≡ values ++ ms) × (left ≡ commas ms)

-- zeros hold no numbers
holds_none : (n : ℕ) → Holds (replicate n 0) []
holds_none zero j = refl
holds_none (suc n) zero = refl
holds_none (suc n) (suc j) = holds_none n j

-- and so do zeros behind
holds_more : (vs ns : List ℕ) (n : ℕ) → length ns ≤ length vs → Holds vs ns → Holds (vs ++ replicate n 0) ns
holds_more [] [] n l h j = holds_none n j
holds_more [] (m ∷ ns) n l h j = absurd (omega arith)
holds_more (v ∷ vs) [] n l h zero = h zero
holds_more (v ∷ vs) [] n l h (suc j) = holds_more vs [] n (omega arith) (λ k. h (suc k)) j
holds_more (v ∷ vs) (m ∷ ns) n l h zero = h zero
holds_more (v ∷ vs) (m ∷ ns) n l h (suc j) = holds_more vs ns n (omega arith) (λ k. h (suc k)) j

pub start : (whole : List ℕ) (count size : ℕ) → Sofar whole whole count size 0 (replicate size 0)
start whole count size = record {
  values = [];
  long = refl;
  places = length-replicate size 0;
  held = holds_none size;
  on = λ ms _ e. e;
  back = λ ks _ e. (ks, refl, e);
}

commas_more : (m : ℕ) (ms : List ℕ) → 0 < length ms → commas (m ∷ ms) ≡ numeral m ++ 44 ∷ commas ms
commas_more m [] h = absurd (omega arith)
commas_more m (k ∷ ms) h = refl

pub comma : (n : ℕ) → Lacks 44 (numeral n)
comma n = numeral_lacks 44 n (λ d. omega arith)

hold : (vs ns : List ℕ) (i n v : ℕ) → length ns ≡ i → i < length vs → v ≡ capped n → Holds vs ns → Holds (set vs i v) (ns ++ n ∷ [])
hold vs ns i n v long small is h j =
    ⊎_elim
    (λ e. subst (λ k. get_or (set vs i v) k 0 ≡ capped (get_or (ns ++ n ∷ []) k 0)) (sym e) (get_or-set_same vs i v 0 small ∙ is ∙ ap capped (sym (get_or_push ns n 0 i long))))
    (λ ne.
    get_or-set_other vs i j v 0 ne ∙ h j
    ∙ ap capped
    (⊎_elim (λ lt. sym (get_or_append_left ns (n ∷ []) 0 j (omega arith)))
    (λ ge. let more = length_push ns n in get_or_past ns j 0 (omega arith) ∙ sym (get_or_past (ns ++ n ∷ []) j 0 (omega arith)))
    (cases_lt j i)))
    (cases_eq j i)

-- a next number, when more are to come
next : (left : List ℕ) (ms : List ℕ) → 1 < length ms → left ≡ commas ms → (m : ℕ) × (ns : List ℕ) × (ms ≡ m ∷ ns) × (left ≡ numeral m ++ 44 ∷ commas ns)
next left [] h e = absurd (omega arith)
next left (m ∷ []) h e = absurd (omega arith)
next left (m ∷ k ∷ ms) h e = (m, k ∷ ms, refl, e)

-- a next number, when it is the last
final : (left : List ℕ) (ms : List ℕ) → length ms ≡ 1 → left ≡ commas ms → (m : ℕ) × (ms ≡ m ∷ []) × (left ≡ numeral m)
final left [] h e = absurd (omega arith)
final left (m ∷ []) h e = (m, refl, e)
final left (m ∷ k ∷ ms) h e = absurd (omega arith)

module _ {whole left vs : List ℕ} {count size i : ℕ} (room : count ≤ size + 1) (s : Sofar whole left count size i vs) where
  remain : (ks ms : List ℕ) → length ks ≡ count → ks ≡ s.values ++ ms → length ms + i ≡ count
  remain ks ms l e = omega (arith, ap length e, length-append s.values ms, s.long)

  pub no_comma : i + 1 < count → Lacks 44 left → NoRow whole count
  no_comma h lacks ks l e =
      let b = s.back ks l e in
      let n = next left b.0 (omega (arith, remain ks b.0 l b.1)) b.2 in
      uncut 44 left (numeral n.0) (commas n.1) lacks n.3

  pub no_number : {p after : List ℕ} → i + 1 < count → CutAt 44 left p after → ((n : ℕ) → p ≡ numeral n → ⊥) → NoRow whole count
  no_number {p} {after} h cut none ks l e =
      let b = s.back ks l e in
      let n = next left b.0 (omega (arith, remain ks b.0 l b.1)) b.2 in
      none n.0 (cut_same 44 p (numeral n.0) after (commas n.1) cut.first (comma n.0) (sym cut.whole ∙ n.3)).0

  pub no_last : i + 1 ≡ count → ((n : ℕ) → left ≡ numeral n → ⊥) → NoRow whole count
  no_last h none ks l e =
      let b = s.back ks l e in
      let n = final left b.0 (omega (arith, remain ks b.0 l b.1)) b.2 in
      none n.0 n.2

  pub more : {p after : List ℕ} {v : ℕ} → i + 1 < count → CutAt 44 left p after → Writes p v → Sofar whole after count size (i + 1) (set vs i v)
  more {p} {after} {v} h cut w = record {
    values = s.values ++ w.value ∷ [];
    long = length_push s.values w.value ∙ ap (λ k. k + 1) s.long;
    places = length-set vs i v ∙ s.places;
    held = hold vs s.values i w.value v s.long (omega (arith, s.places)) w.held s.held;
    on = λ ms some e.
        let here : left ≡ commas (w.value ∷ ms) = cut.whole ∙ (λ k. w.text k ++ 44 ∷ e k) ∙ sym (commas_more w.value ms some) in
        s.on (w.value ∷ ms) (omega arith) here ∙ ap commas (sym (append_assoc s.values (w.value ∷ []) ms));
    back = λ ks l e.
        let b = s.back ks l e in
        let n = next left b.0 (omega (arith, remain ks b.0 l b.1)) b.2 in
        let c = cut_same 44 p (numeral n.0) after (commas n.1) cut.first (comma n.0) (sym cut.whole ∙ n.3) in
        let same = numeral_same n.0 w.value (sym c.0 ∙ w.text) in
        (n.1, b.1 ∙ ap (λ t. s.values ++ t) (n.2 ∙ ap (λ k. k ∷ n.1) same) ∙ sym (append_assoc s.values (w.value ∷ []) n.1), c.1);
  }

  -- the last number, into the first of the places behind
  pub done : (places : ℕ) {v : ℕ} → count ≤ places → i + 1 ≡ count → size ≡ i → Writes left v → Row whole count places (set (vs ++ drop size (replicate places 0)) size v)
  done places {v} most h full w =
      let behind = drop-replicate {X = ℕ} size places 0 in
      let ws = vs ++ replicate (places - size) 0 in
      let zeros = length-replicate {A = ℕ} (places - size) 0 in
      let long : length ws ≡ places = omega (arith, length-append vs (replicate (places - size) 0), s.places, zeros) in
      rw behind (record {
        values = s.values ++ w.value ∷ [];
        long = length_push s.values w.value ∙ ap (λ k. k + 1) s.long ∙ h;
        text = s.on (w.value ∷ []) (omega arith) w.text;
        places = length-set ws size v ∙ long;
        held = hold ws s.values size w.value v (s.long ∙ sym full) (omega (arith, long)) w.held (holds_more vs s.values (places - size) (omega (arith, s.places, s.long)) s.held);
      })
