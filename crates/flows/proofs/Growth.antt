-- Flows and control grow as their relations do.
use Rattle.std.proofs.Common.{◌≡◌, ℕ, ◌*◌, ◌<◌, Bool, true, false, ◌&&◌, ◌||◌, T, eqb, ltb, ◌⊎◌, MatchBool, sym, refl, ap, ◌∙◌, subst, inl, inr}
use Rattle.std.proofs.lemmas.Bool.{and_right}
use Rattle.sets.specs.Least
use Rattle.sets.specs.Member.{relates}
use Rattle.sets.specs.Chains as pairs
use Rattle.sets.specs.Chains.{Chained, given, on, LeadsOn, Through}
use Rattle.sets.specs.declared.relation.Relation.{Relation}
use Rattle.sets.proofs.Chaining.{joined_one}
use Rattle.model.specs.declared.fact.Fact.{Fact}
use Rattle.model.specs.declared.fact.Fact.TheVariants.{Lives, Held, Right, Access, Holding, Flow, Control}
use Rattle.model.specs.Flows.{before, onward, passing}
use Rattle.block.specs.declared.tables.Tables.{Tables}
use Rattle.block.specs.declared.relations.Relations.{Relations}
use Rattle.block.specs.Reading.{standing}
use Rattle.flows.specs.Spread.{Has, Lacks, Law, Follows, Joined, Spread}
use Rattle.flows.specs.Rules.{Onward, Passing}
use Rattle.flows.proofs.Places.{placed, parts}
use Rattle.flows.proofs.Steps.{adds}

-- The facts of a relation of n rows: fact x y stands where row x has y.
module _ (t : Tables) (fact : ℕ → ℕ → Fact) (n : ℕ) {W : ℕ} (wide : 64 * W ≡ n) (r : Relation n W) (state : Relations)
    (is : (x y : ℕ) → standing t state (fact x y) ≡ (ltb x n && (ltb y n && relates r x y))) where
  into : (p : ℕ × ℕ) → pairs.Has r p → Has t state (fact p.0 p.1)
  into p h = subst T (sym (is p.0 p.1)) (placed n n p.0 p.1 (relates r p.0 p.1) h.0 (subst (λ (m : ℕ). p.1 < m) wide h.1) h.2)

  out : (x y : ℕ) → Has t state (fact x y) → pairs.Has r (x, y)
  out x y s =
      let v = parts n n x y (relates r x y) (subst T (is x y) s) in (v.0, subst (λ (m : ℕ). y < m) (sym wide) v.1, v.2)

  lacks : (p : ℕ × ℕ) → pairs.Lacks r p → Lacks t state (fact p.0 p.1)
  lacks p e = is p.0 p.1 ∙ and_right (ltb p.0 n) (ltb p.1 n && relates r p.0 p.1) (and_right (ltb p.1 n) (relates r p.0 p.1) e)

-- The relation r becomes q, and with it the state old becomes new, where all other facts stay.
module _ (t : Tables) (fact : ℕ → ℕ → Fact) (n : ℕ) {W : ℕ} (wide : 64 * W ≡ n) (r q : Relation n W) (old new : Relations)
    (was : (x y : ℕ) → standing t old (fact x y) ≡ (ltb x n && (ltb y n && relates r x y)))
    (is : (x y : ℕ) → standing t new (fact x y) ≡ (ltb x n && (ltb y n && relates q x y)))
    (apart : (f : Fact) → (standing t new f ≡ standing t old f) ⊎ ((x : ℕ) × (y : ℕ) × (f ≡ fact x y)))
    (back : q ≡ r → new ≡ old) where
  kept_with : ((p : ℕ × ℕ) → pairs.Has r p → pairs.Has q p) → (f : Fact) → Has t old f → Has t new f
  kept_with keeps f s = at (apart f)
    where
      at : (standing t new f ≡ standing t old f) ⊎ ((x : ℕ) × (y : ℕ) × (f ≡ fact x y)) → Has t new f
      at (inl e) = subst T (sym e) s
      at (inr w) =
          subst (Has t new) (sym w.2)
          (into t fact n wide q new is (w.0, w.1) (keeps (w.0, w.1) (out t fact n wide r old was w.0 w.1 (subst (Has t old) w.2 s))))

  told_with : (g : Bool) → Least.Told (pairs.Has {N = n} {W = W}) (pairs.Lacks {N = n} {W = W}) r q g → Least.Told (Has t) (Lacks t) old new g
  told_with true w = (fact w.0.0 w.0.1, lacks t fact n wide r old was w.0 w.1, into t fact n wide q new is w.0 w.2)
  told_with false e = back e

  joined_with : (g : Bool) (More : ℕ × ℕ → Type 0) → Least.Joined (pairs.Has {N = n} {W = W}) (pairs.Lacks {N = n} {W = W}) r q g More
      → Joined t old new g (λ f. (p : ℕ × ℕ) × More p × (f ≡ fact p.0 p.1))
  joined_with g More j =
      record {
        kept = kept_with j.kept;
        added = λ f m. subst (Has t new) (sym m.2) (into t fact n wide q new is m.0 (j.added m.0 m.1));
        else = λ f s. from f s (apart f);
        told = told_with g j.told;
      }
    where
      which : (f : Fact) (x y : ℕ) → f ≡ fact x y → pairs.Has r (x, y) ⊎ More (x, y) → Has t old f ⊎ ((p : ℕ × ℕ) × More p × (f ≡ fact p.0 p.1))
      which f x y e (inl o) = inl (subst (Has t old) (sym e) (into t fact n wide r old was (x, y) o))
      which f x y e (inr m) = inr ((x, y), m, e)

      from : (f : Fact) → Has t new f → (standing t new f ≡ standing t old f) ⊎ ((x : ℕ) × (y : ℕ) × (f ≡ fact x y))
          → Has t old f ⊎ ((p : ℕ × ℕ) × More p × (f ≡ fact p.0 p.1))
      from f s (inl e) = inl (subst T e s)
      from f s (inr w) = which f w.0 w.1 w.2 (j.else (w.0, w.1) (out t fact n wide q new is w.0 w.1 (subst (Has t new) w.2 s)))

  chained : (Before : Fact → Type 0) → ((p : ℕ × ℕ) → pairs.Has r p → Before (fact p.0 p.1))
      → ((a b c : ℕ) → Follows t Before (fact a b) → Follows t Before (fact b c) → Follows t Before (fact a c)) → {p : ℕ × ℕ}
      → Chained (pairs.Has r) p → Follows t Before (fact p.0 p.1)
  chained Before base go (given {p = p} h) = before (base p h)
  chained Before base go (on {a = a} {b = b} {c = c} x y) = go a b c (chained Before base go x) (chained Before base go y)

  -- the relation goes on, and the facts with it
  spread_with : (g : Bool)
      → ((a b c : ℕ) → Follows t (Has t old) (fact a b) → Follows t (Has t old) (fact b c) → Follows t (Has t old) (fact a c))
      → pairs.Extends r q g (λ z. (b : ℕ) → b < n → Through b z)
      → Spread t old new g (λ P. (b : ℕ) → b < n → (a : ℕ) → a < n → (c : ℕ) → P (fact a b) → P (fact b c) → P (fact a c))
  spread_with g go e =
      record {
        kept = kept_with e.kept;
        follows = λ f s. from f s (apart f);
        told = told_with g e.told;
        closed = λ none b k a l c x y. into t fact n wide q new is (a, c) (e.closed none b k a l c (out t fact n wide q new is a b x) (out t fact n wide q new is b c y));
      }
    where
      from : (f : Fact) → Has t new f → (standing t new f ≡ standing t old f) ⊎ ((x : ℕ) × (y : ℕ) × (f ≡ fact x y)) → Follows t (Has t old) f
      from f s (inl e) = before (subst T e s)
      from f s (inr w) =
          subst (Follows t (Has t old)) (sym w.2)
          (chained (Has t old) (into t fact n wide r old was) go (e.follows (w.0, w.1) (out t fact n wide q new is w.0 w.1 (subst (Has t new) w.2 s))))

-- one fact is added
one : (t : Tables) (old new : Relations) (g : Bool) (fact : ℕ → ℕ → Fact) (a b : ℕ)
    → Joined t old new g (λ f. (p : ℕ × ℕ) × (p ≡ (a, b)) × (f ≡ fact p.0 p.1)) → Joined t old new g (λ f. f ≡ fact a b)
one t old new g fact a b j =
    record { kept = j.kept; added = λ f e. j.added f ((a, b), refl, e); else = λ f h. turn f (j.else f h); told = j.told }
  where
    turn : (f : Fact) → Has t old f ⊎ ((p : ℕ × ℕ) × (p ≡ (a, b)) × (f ≡ fact p.0 p.1)) → Has t old f ⊎ (f ≡ fact a b)
    turn f (inl h) = inl h
    turn f (inr w) = inr (w.2 ∙ ap (λ (p : ℕ × ℕ). fact p.0 p.1) w.1)

-- ## Flows, and control

module _ (t : Tables) (r : Relations) (q : Relation 256 4) where
  abbrev with_flows : Relations
  with_flows = record { flows = q; control = r.control }

  but_flows : (f : Fact) → (standing t with_flows f ≡ standing t r f) ⊎ ((x : ℕ) × (y : ℕ) × (f ≡ Flow x y))
  but_flows (Lives i) = inl refl
  but_flows (Held s k) = inl refl
  but_flows (Right k i m) = inl refl
  but_flows (Access s i m) = inl refl
  but_flows (Holding c e) = inl refl
  but_flows (Flow x y) = inr (x, y, refl)
  but_flows (Control s u) = inl refl

  flows_back : q ≡ r.flows → with_flows ≡ r
  flows_back e = λ i. record { flows = e i; control = r.control }

  pub flows_joined : (g : Bool) (More : ℕ × ℕ → Type 0) → Least.Joined (pairs.Has {N = 256} {W = 4}) (pairs.Lacks {N = 256} {W = 4}) r.flows q g More
      → Joined t r with_flows g (λ f. (p : ℕ × ℕ) × More p × (f ≡ Flow p.0 p.1))
  flows_joined = joined_with t Flow 256 refl r.flows q r with_flows (λ x y. refl) (λ x y. refl) but_flows flows_back

  flow_added : (a b : ℕ) (g : Bool) → a < 256 → b < 256
      → ((x z : ℕ) → relates q x z ≡ (relates r.flows x z || (eqb x a && eqb z b))) → MatchBool g (relates r.flows a b ≡ false) (q ≡ r.flows)
      → Joined t r with_flows g (λ f. f ≡ Flow a b)
  flow_added a b g i l m w =
      one t r with_flows g Flow a b (flows_joined g (λ p. p ≡ (a, b)) (joined_one r.flows q a b g i l m w))

  -- a flow from a to b is added
  pub gives_flow : (a b : ℕ) (g : Bool) (law : Law) → a < 256 → b < 256
      → ((x z : ℕ) → relates q x z ≡ (relates r.flows x z || (eqb x a && eqb z b))) → MatchBool g (relates r.flows a b ≡ false) (q ≡ r.flows)
      → Follows t (Has t r) (Flow a b) → (Has t with_flows (Flow a b) → law (Has t with_flows)) → Spread t r with_flows g law
  gives_flow a b g law i l m w = adds t r with_flows g (Flow a b) law (flow_added a b g i l m w)

  pub flows_go_on : (g : Bool) → pairs.Extends r.flows q g (λ z. (b : ℕ) → b < 256 → Through b z)
      → Spread t r with_flows g (λ P. (b : ℕ) → b < 256 → (a : ℕ) → a < 256 → Passing a b P)
  flows_go_on g =
      spread_with t Flow 256 refl r.flows q r with_flows (λ x y. refl) (λ x y. refl) but_flows flows_back g (λ a b c x y. passing x y)

module _ (t : Tables) (r : Relations) (q : Relation 64 1) where
  abbrev with_control : Relations
  with_control = record { flows = r.flows; control = q }

  but_control : (f : Fact) → (standing t with_control f ≡ standing t r f) ⊎ ((x : ℕ) × (y : ℕ) × (f ≡ Control x y))
  but_control (Lives i) = inl refl
  but_control (Held s k) = inl refl
  but_control (Right k i m) = inl refl
  but_control (Access s i m) = inl refl
  but_control (Holding c e) = inl refl
  but_control (Flow x y) = inl refl
  but_control (Control s u) = inr (s, u, refl)

  control_back : q ≡ r.control → with_control ≡ r
  control_back e = λ i. record { flows = r.flows; control = e i }

  control_added : (s u : ℕ) (g : Bool) → s < 64 → u < 64
      → ((x z : ℕ) → relates q x z ≡ (relates r.control x z || (eqb x s && eqb z u))) → MatchBool g (relates r.control s u ≡ false) (q ≡ r.control)
      → Joined t r with_control g (λ f. f ≡ Control s u)
  control_added s u g i l m w =
      one t r with_control g Control s u
      (joined_with t Control 64 refl r.control q r with_control (λ x y. refl) (λ x y. refl) but_control control_back g (λ p. p ≡ (s, u)) (joined_one r.control q s u g i l m w))

  -- the session s is given control of u
  pub gives_control : (s u : ℕ) (g : Bool) (law : Law) → s < 64 → u < 64
      → ((x z : ℕ) → relates q x z ≡ (relates r.control x z || (eqb x s && eqb z u))) → MatchBool g (relates r.control s u ≡ false) (q ≡ r.control)
      → Follows t (Has t r) (Control s u) → (Has t with_control (Control s u) → law (Has t with_control)) → Spread t r with_control g law
  gives_control s u g law i l m w = adds t r with_control g (Control s u) law (control_added s u g i l m w)

  pub control_goes_on : (g : Bool) → pairs.Extends r.control q g (λ z. (b : ℕ) → b < 64 → Through b z)
      → Spread t r with_control g (λ P. (b : ℕ) → b < 64 → (a : ℕ) → a < 64 → Onward a b P)
  control_goes_on g =
      spread_with t Control 64 refl r.control q r with_control (λ x y. refl) (λ x y. refl) but_control control_back g (λ a b c x y. onward x y)
