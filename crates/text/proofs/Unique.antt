-- Each text has one outcome. Assumes nothing.
use Rattle.std.proofs.Common.{◌≡◌, ℕ, ◌+◌, ◌<◌, ◌≤◌, true, false, List, [], ◌∷◌, ◌++◌, length, Some, None, Ok, Err, Option, sym, refl, ap, ◌∙◌, subst, ⊎_elim, append_assoc, append-nil, arith, length-append}
use Rattle.std.proofs.lemmas.Bool.{both_ways, cases_lt}
use Rattle.text.specs.declared.record.Fault.{Fault}
use Rattle.text.specs.declared.record.Fault.TheVariants.{Size, Form, Order, Range}
use Rattle.text.specs.declared.record.Line.{Line}
use Rattle.text.specs.Lines.{key_text, key_of, numbers, numeral, commas, body, line_text, text, Sound, follows, in_range, Begins, Malformed, Misplaced, OutOfRange, Refused, First, FirstUnique}
use Rattle.text.specs.Post.{arity, line_of}
use Rattle.text.proofs.Cuts.{cut_same}
use Rattle.text.proofs.Numerals.{numeral_same}
use Rattle.text.proofs.Rows.{comma}
use Rattle.text.proofs.Bodies.{key_lacks, key_same, body_lacks, numbers_long}

pub commas_same : (ns ms : List ℕ) → length ns ≡ length ms → commas ns ≡ commas ms → ns ≡ ms
commas_same [] [] l e = refl
commas_same [] (m ∷ ms) l e = absurd (omega arith)
commas_same (n ∷ ns) [] l e = absurd (omega arith)
commas_same (n ∷ []) (m ∷ []) l e = ap (λ k. k ∷ []) (numeral_same n m e)
commas_same (n ∷ []) (m ∷ k ∷ ms) l e = absurd (omega arith)
commas_same (n ∷ j ∷ ns) (m ∷ []) l e = absurd (omega arith)
commas_same (n ∷ j ∷ ns) (m ∷ k ∷ ms) l e =
    let c = cut_same 44 (numeral n) (numeral m) (commas (j ∷ ns)) (commas (k ∷ ms)) (comma n) (comma m) e in
    let head = numeral_same n m c.0 in
    let tail = commas_same (j ∷ ns) (k ∷ ms) (omega arith) c.1 in
    λ i. head i ∷ tail i

pub line_back : (l : Line) → line_of (key_of l) (numbers l) ≡ l
line_back l = grind arith

body_same : (l m : Line) → body l ≡ body m → l ≡ m
body_same l m e =
    let c = cut_same 61 (key_text (key_of l)) (key_text (key_of m)) (commas (numbers l)) (commas (numbers m)) (key_lacks (key_of l)).0 (key_lacks (key_of m)).0 e in
    let k = key_same (key_of l) (key_of m) c.0 in
    let n = commas_same (numbers l) (numbers m) (numbers_long l ∙ ap arity k ∙ sym (numbers_long m)) c.1 in
    sym (line_back l) ∙ (λ i. line_of (k i) (n i)) ∙ line_back m

-- bytes begin with one line
pub line_same : (l m : Line) (a b : List ℕ) → line_text l ++ a ≡ line_text m ++ b → (l ≡ m) × (a ≡ b)
line_same l m a b e =
    let c = cut_same 10 (body l) (body m) a b (body_lacks l) (body_lacks m) (sym (append_assoc (body l) (10 ∷ []) a) ∙ e ∙ append_assoc (body m) (10 ∷ []) b) in
    (body_same l m c.0, c.1)

-- a text of lines, cut before the last of them and after the first
pub text_first : (ls : List Line) (l : Line) → text (ls ++ l ∷ []) ≡ line_text l ++ text ls
text_first [] l = sym (append-nil (line_text l))
text_first (k ∷ ls) l = ap (λ t. t ++ line_text k) (text_first ls l) ∙ append_assoc (line_text l) (text ls) (line_text k)

pub first_line : (ls : List Line) → 0 < length ls → (rest : List Line) × (l : Line) × (ls ≡ rest ++ l ∷ [])
first_line [] h = absurd (omega arith)
first_line (l ∷ []) h = ([], l, refl)
first_line (l ∷ k ∷ ls) h = let r = first_line (k ∷ ls) (omega arith) in (l ∷ r.0, r.1, ap (λ t. l ∷ t) r.2)

-- of two readings of one text, the longer goes on from the shorter
pub goes_on : (ls ms : List Line) (left right : List ℕ) → text ls ++ left ≡ text ms ++ right → length ls ≤ length ms → (more : List Line) × (ms ≡ more ++ ls) × (left ≡ text more ++ right)
goes_on [] ms left right e h = (ms, sym (append-nil ms), e)
goes_on (l ∷ ls) ms left right e h =
    let r = goes_on ls ms (line_text l ++ left) right (sym (append_assoc (text ls) (line_text l) left) ∙ e) (omega arith) in
    let f = first_line r.0 (omega (arith, ap length r.1, length-append r.0 ls)) in
    let cut = line_same l f.1 left (text f.0 ++ right) (r.2 ∙ ap (λ t. text t ++ right) f.2 ∙ ap (λ t. t ++ right) (text_first f.0 f.1) ∙ append_assoc (line_text f.1) (text f.0) right) in
    (f.0, r.1 ∙ ap (λ t. t ++ ls) f.2 ∙ append_assoc f.0 (f.1 ∷ []) ls ∙ ap (λ k. f.0 ++ k ∷ ls) (sym cut.0), cut.1)

pub sound_part : (more : List Line) (l : Line) (ls : List Line) → Sound (more ++ l ∷ ls) → (follows ls l ≡ true) × (in_range l ≡ true)
sound_part [] l ls s = (s.0, s.1)
sound_part (k ∷ more) l ls s = sound_part more l ls s.2

-- no sound line comes next
abbrev pub Stuck : List Line → List ℕ → Type 0
Stuck ls left = (l : Line) (more : List ℕ) → left ≡ line_text l ++ more → follows ls l ≡ true → in_range l ≡ true → ⊥

-- a reading that is stuck is not gone on from
stuck_end : (ls ms : List Line) (left right : List ℕ) → Sound ms → Stuck ls left → (more : List Line) → ms ≡ more ++ ls → left ≡ text more ++ right → more ≡ []
stuck_end ls ms left right s stuck [] e f = refl
stuck_end ls ms left right s stuck (k ∷ more) e f =
    let r = first_line (k ∷ more) (omega arith) in
    let sound = sound_part r.0 r.1 ls (subst Sound (e ∙ ap (λ t. t ++ ls) r.2 ∙ append_assoc r.0 (r.1 ∷ []) ls) s) in
    absurd (stuck r.1 (text r.0 ++ right) (f ∙ ap (λ t. text t ++ right) r.2 ∙ ap (λ t. t ++ right) (text_first r.0 r.1) ∙ append_assoc (line_text r.1) (text r.0) right) sound.0 sound.1)

-- so there is one
pub stuck_same : (ls ms : List Line) (left right : List ℕ) → text ls ++ left ≡ text ms ++ right → Sound ls → Sound ms → Stuck ls left → Stuck ms right → (ls ≡ ms) × (left ≡ right)
stuck_same ls ms left right e sl sm tl tm =
    ⊎_elim
    (λ h.
    let g = goes_on ls ms left right e (omega arith) in
    let n = stuck_end ls ms left right sm tl g.0 g.1 g.2 in
    (sym (g.1 ∙ ap (λ t. t ++ ls) n), g.2 ∙ ap (λ t. text t ++ right) n))
    (λ h.
    let g = goes_on ms ls right left (sym e) h in
    let n = stuck_end ms ls right left sl tm g.0 g.1 g.2 in
    (g.1 ∙ ap (λ t. t ++ ms) n, sym (g.2 ∙ ap (λ t. text t ++ left) n)))
    (cases_lt (length ls) (length ms))

-- How a reading ends: accepted, or with a fault

abbrev Ending : Option Fault → List Line → List ℕ → Type 0
Ending None ls left = (left ≡ []) × (2 ≤ length ls)
Ending (Some Size) ls left = ⊥
Ending (Some Form) ls left = Malformed ls left
Ending (Some Order) ls left = Misplaced ls left
Ending (Some Range) ls left = OutOfRange ls left

pub line_some : (l : Line) (more : List ℕ) → 0 < length (line_text l ++ more)
line_some l more = omega (arith, length-append (line_text l) more, length-append (body l) (10 ∷ []))

module _ (ls : List Line) (left : List ℕ) where
  empty_some : left ≡ [] → 0 < length left → ⊥
  empty_some e h = omega (arith, ap length e)

  begins_nil : (l : Line) → Begins left l → left ≡ [] → ⊥
  begins_nil l b e = omega (arith, line_some l b.0, ap length (sym e ∙ b.1))

  -- two lines that begin the bytes are one
  begins_same : (l m : Line) → Begins left l → Begins left m → l ≡ m
  begins_same l m b c = (line_same l m b.0 c.0 (sym b.1 ∙ c.1)).0

  begins_order : (l m : Line) → Begins left l → Begins left m → follows ls l ≡ false → follows ls m ≡ true → ⊥
  begins_order l m b c f t = both_ways (follows ls m) (ap (follows ls) (sym (begins_same l m b c)) ∙ f) t

  stuck : (o : Option Fault) → Ending o ls left → Stuck ls left
  stuck None h l more e f r = begins_nil l (more, e) h.0
  stuck (Some Size) h l more e f r = h
  stuck (Some Form) h l more e f r = h.1 l more e
  stuck (Some Order) h l more e f r = ⊎_elim (λ k. begins_nil l (more, e) k.0) (λ k. begins_order k.0 l k.1 (more, e) k.2 f) h
  stuck (Some Range) h l more e f r = both_ways (in_range l) (ap in_range (sym (begins_same h.0 l h.1 (more, e))) ∙ h.3) r

  none_form : Ending None ls left → Malformed ls left → ⊥
  none_form a b = empty_some a.0 b.0

  none_order : Ending None ls left → Misplaced ls left → ⊥
  none_order a b = ⊎_elim (λ h. omega (arith, a.1, h.1)) (λ h. begins_nil h.0 h.1 a.0) b

  none_range : Ending None ls left → OutOfRange ls left → ⊥
  none_range a b = begins_nil b.0 b.1 a.0

  form_order : Malformed ls left → Misplaced ls left → ⊥
  form_order a b = ⊎_elim (λ h. empty_some h.0 a.0) (λ h. a.1 h.0 h.1.0 h.1.1) b

  form_range : Malformed ls left → OutOfRange ls left → ⊥
  form_range a b = a.1 b.0 b.1.0 b.1.1

  order_range : Misplaced ls left → OutOfRange ls left → ⊥
  order_range a b = ⊎_elim (λ h. begins_nil b.0 b.1 h.0) (λ h. begins_order h.0 b.0 h.1 b.1 h.2 b.2) a

  one_ending : (o p : Option Fault) → Ending o ls left → Ending p ls left → o ≡ p
  one_ending None None a b = refl
  one_ending None (Some Size) a b = absurd b
  one_ending None (Some Form) a b = absurd (none_form a b)
  one_ending None (Some Order) a b = absurd (none_order a b)
  one_ending None (Some Range) a b = absurd (none_range a b)
  one_ending (Some Size) None a b = absurd a
  one_ending (Some Size) (Some Size) a b = absurd a
  one_ending (Some Size) (Some Form) a b = absurd a
  one_ending (Some Size) (Some Order) a b = absurd a
  one_ending (Some Size) (Some Range) a b = absurd a
  one_ending (Some Form) None a b = absurd (none_form b a)
  one_ending (Some Form) (Some Size) a b = absurd b
  one_ending (Some Form) (Some Form) a b = refl
  one_ending (Some Form) (Some Order) a b = absurd (form_order a b)
  one_ending (Some Form) (Some Range) a b = absurd (form_range a b)
  one_ending (Some Order) None a b = absurd (none_order b a)
  one_ending (Some Order) (Some Size) a b = absurd b
  one_ending (Some Order) (Some Form) a b = absurd (form_order b a)
  one_ending (Some Order) (Some Order) a b = refl
  one_ending (Some Order) (Some Range) a b = absurd (order_range a b)
  one_ending (Some Range) None a b = absurd (none_range b a)
  one_ending (Some Range) (Some Size) a b = absurd b
  one_ending (Some Range) (Some Form) a b = absurd (form_range b a)
  one_ending (Some Range) (Some Order) a b = absurd (order_range b a)
  one_ending (Some Range) (Some Range) a b = refl

-- the number that an outcome has: of the lines, or of the line at fault
abbrev numbered : Option Fault → List Line → ℕ
numbered None ls = length ls
numbered (Some f) ls = length ls + 1

record Ends (bytes : List ℕ) (o : Option Fault) (n : ℕ) : Type 0 where
  lines : List Line
  left : List ℕ
  whole : bytes ≡ text lines ++ left
  sound : Sound lines
  ending : Ending o lines left
  number : n ≡ numbered o lines

ends_same : {bytes : List ℕ} {o p : Option Fault} {n m : ℕ} → Ends bytes o n → Ends bytes p m → (o ≡ p) × (n ≡ m)
ends_same {bytes} {o} {p} a b =
    let e = stuck_same a.lines b.lines a.left b.left (sym a.whole ∙ b.whole) a.sound b.sound (stuck a.lines a.left o a.ending) (stuck b.lines b.left p b.ending) in
    let q = one_ending b.lines b.left o p (subst (λ t. Ending o t b.left) e.0 (subst (λ t. Ending o a.lines t) e.1 a.ending)) b.ending in
    (q, a.number ∙ (λ i. numbered (q i) (e.0 i)) ∙ sym b.number)

accepted_ends : (bytes : List ℕ) {n : ℕ} → First bytes (Ok n) → Ends bytes None n
accepted_ends bytes h = record { lines = h.0; left = []; whole = h.1.whole ∙ sym (append-nil (text h.0)); sound = h.1.sound; ending = (refl, h.1.both); number = h.2 }

refused_ends : (bytes : List ℕ) (f : Fault) {n : ℕ} → length bytes ≤ 32768 → Refused bytes f n → Ends bytes (Some f) n
refused_ends bytes Size l h = absurd (omega (arith, h.0))
refused_ends bytes Form l h = record { lines = h.lines; left = h.left; whole = h.whole; sound = h.sound; ending = h.fault; number = h.next }
refused_ends bytes Order l h = record { lines = h.lines; left = h.left; whole = h.whole; sound = h.sound; ending = h.fault; number = h.next }
refused_ends bytes Range l h = record { lines = h.lines; left = h.left; whole = h.whole; sound = h.sound; ending = h.fault; number = h.next }

too_long : (bytes : List ℕ) (f : Fault) {n : ℕ} → 32768 < length bytes → Refused bytes f n → (f ≡ Size) × (n ≡ 0)
too_long bytes Size l h = (refl, h.1)
too_long bytes Form l h = absurd (omega (arith, h.size))
too_long bytes Order l h = absurd (omega (arith, h.size))
too_long bytes Range l h = absurd (omega (arith, h.size))

refused_same : (bytes : List ℕ) (f g : Fault) {n m : ℕ} → Refused bytes f n → Refused bytes g m → (f ≡ g) × (n ≡ m)
refused_same bytes f g a b =
    ⊎_elim
    (λ long. let p = too_long bytes f long a in let q = too_long bytes g long b in (p.0 ∙ sym q.0, p.1 ∙ sym q.1))
    (λ short. let e = ends_same (refused_ends bytes f short a) (refused_ends bytes g short b) in let i = e.0 in (cc, e.1))
    (cases_lt 32768 (length bytes))

never : (bytes : List ℕ) (f : Fault) (n m : ℕ) → First bytes (Ok n) → Refused bytes f m → ⊥
never bytes f n m a b = let e = (ends_same (accepted_ends bytes a) (refused_ends bytes f a.1.size b)).0 in let z : ◌≡◌ {A = ℕ} 0 1 = cc in omega arith

pub first_unique : FirstUnique
first_unique bytes (Ok n) (Ok m) a b = ap Ok (ends_same (accepted_ends bytes a) (accepted_ends bytes b)).1
first_unique bytes (Ok n) (Err s) a b = absurd (never bytes s.fault n s.line a b)
first_unique bytes (Err r) (Ok m) a b = absurd (never bytes r.fault m r.line b a)
first_unique bytes (Err r) (Err s) a b = let e = refused_same bytes r.fault s.fault a b in λ i. Err (record { fault = e.0 i; line = e.1 i })
