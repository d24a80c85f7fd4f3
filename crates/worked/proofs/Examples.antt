-- Every worked example holds.
use Rattle.std.proofs.Common.{◌≡◌, ℕ, T, ◌≢◌, ◌↔◌, List, [], ◌∷◌, Some, Ok, Err, sym, refl, subst, inl, inr, arith}
use Rattle.std.specs.List.{AllByRecursion}
use Rattle.sets.specs.Member.{bit}
use Rattle.policy.specs.Order.{Order, ladder}
use Rattle.policy.specs.Rule.{Rule}
use Rattle.model.specs.declared.answer.Refusal.{Refusal}
use Rattle.model.specs.declared.answer.Refusal.TheVariants.{Range, LevelUnknown, NoSession, NumberUsed, Protected, OtherHoldings, AccessMissing}
use Rattle.model.specs.declared.fact.Fact.TheVariants.{Control}
use Rattle.model.specs.declared.fact.Mode.TheVariants.{Write}
use Rattle.model.specs.declared.request.Request.{Request}
use Rattle.model.specs.declared.request.Kind.TheVariants.{Gain, GiveUp}
use Rattle.model.specs.Answers.{Answer, refusal_number}
use Rattle.model.specs.Records.{State, Stands}
use Rattle.model.specs.Form.{kind_of}
use Rattle.model.specs.Needs.{needs, Met, Fails, Free, Elsewhere, Entitled, start, into}
use Rattle.model.specs.Runs.{accepted, refused, Run, stop, step}
use Rattle.model.proofs.Outcome.{one_outcome}
use Rattle.start.proofs.Outcome.{begins_once}
use Rattle.worked.specs.Worked.{Example, request, single, rule, paired, Ends, Holds, examples, Worked}
use Rattle.worked.proofs.Chains.{◌&◌, ◌▸◌}
use Rattle.worked.proofs.Stages.{begun, begins, gain, gained, settles_gained, give_up, ended, settles_ended}

-- ## One run is enough

run_once : (o : Order) (h : Rule) {S S₁ S₂ : State} {qs : List Request} {a b : List Answer} → Run o h S qs a S₁ → Run o h S qs b S₂ → (a ≡ b) × (S₁ ≡ S₂)
run_once o h stop stop = (refl, refl)
run_once o h {S₂} (step {S} {S₁ = P} {q} {a} {qs} {ans} s r) (step {S₁ = Q} {a = b} {ans = bs} t u) =
    let (p, e) = one_outcome o h S P Q q a b s t in
    let (ps, d) = run_once o h r (subst (λ (R : State). Run o h R qs bs S₂) (sym e) u) in
    (λ i. p i ∷ ps i, d)

by_run : {S S' : State} {e : Example} {ans : List Answer} → Run ladder rule S e.requests ans S' → Ends e ans S' → Holds S e
by_run {S} {S'} {e} {ans} r x =
    record { runs = (ans, S', r); ends = λ bs R u. let once = run_once ladder rule r u in subst (λ (w : List Answer × State). Ends e w.0 w.1) (λ i. (once.0 i, once.1 i)) x }

-- ## A request that is refused at the start

no_control : (s t : ℕ) → s ≢ t → Stands begun (Control s t) ↔ ⊥
no_control s t n = (λ d. grind arith, λ x. absurd x)

turned_down : (q : Request) (why : Refusal) → Fails (needs ladder rule begun q (kind_of q.k)) why → Holds begun (single q (refusal_number why))
turned_down q why f = by_run (step (refused f) stop) (record { answers = refl; controls = no_control })

-- ## Access gained, given up, and not there to be given up again

met_gain : Met (needs ladder rule begun gain (Some Gain))
met_gain =
    tt & tt & tt & (tt, tt) & (tt, tt) & (tt, tt) & (2, tt, tt)
    & inr (into {c = 66} (into {c = 64} start ((2, tt, tt), tt) tt) ((2, tt, tt), tt) tt)
    & (λ n e. omega arith)
    & tt

met_give_up : Met (needs ladder rule gained give_up (Some GiveUp))
met_give_up = tt & tt & tt & (tt, tt) & (tt, tt) & (tt, tt) & tt & tt

fails_again : Fails (needs ladder rule ended give_up (Some GiveUp)) AccessMissing
fails_again = tt ▸ tt ▸ tt ▸ (tt, tt) ▸ (tt, tt) ▸ (tt, tt) ▸ inl (λ a. a, refl)

steps : Run ladder rule begun (gain ∷ give_up ∷ give_up ∷ []) (Ok tt ∷ Ok tt ∷ Err AccessMissing ∷ []) ended
unfolding kind_of
steps =
    step (accepted refl met_gain settles_gained) (step (accepted refl met_give_up settles_ended) (step (refused fails_again) stop))

one_control : (s t : ℕ) → s ≢ t → Stands ended (Control s t) ↔ T (paired s t ((2, 1) ∷ []))
one_control s t n = (λ d. grind arith, λ d. grind arith)

-- ## The table

not_entitled : ¬ Entitled begun 2 65 Write
not_entitled e = grind arith

free : Free begun.cards 67
free =
    record { no_root = λ e. omega arith; no_gate = λ e. omega arith; no_account_key = λ a n e. grind arith; no_role_key = λ r n e. grind arith }

only_holder : ¬ Elsewhere begun 66 67
only_holder e = grind arith

table : AllByRecursion (Holds begun) examples
unfolding kind_of bit
table =
    by_run steps (record { answers = refl; controls = one_control })
    & turned_down (request 12 2 1 0 65 0 0 2) AccessMissing (tt ▸ tt ▸ tt ▸ (tt, tt) ▸ (tt, tt) ▸ (tt, tt) ▸ inl (not_entitled, refl))
    & turned_down (request 12 64 1 0 65 0 0 2) Range (tt ▸ inl (λ r. r, refl))
    & turned_down (request 12 63 1 0 65 0 0 2) NoSession (tt ▸ tt ▸ tt ▸ inl (λ l. l.0, refl))
    & turned_down (request 5 1 1 0 64 64 0 0) NumberUsed (tt ▸ tt ▸ tt ▸ (tt, tt) ▸ (tt, tt) ▸ inl (λ n. n.0, refl))
    & turned_down (request 5 1 1 0 63 64 0 0) Range (tt ▸ inl (λ r. r, refl))
    & turned_down (request 5 1 1 0 68 64 16 0) LevelUnknown (tt ▸ tt ▸ inl (λ k. k, refl))
    & turned_down (request 5 1 1 0 68 64 15 0) AccessMissing (tt ▸ tt ▸ tt ▸ (tt, tt) ▸ (tt, tt) ▸ (tt, tt) ▸ (1, tt, tt) ▸ inl (λ a. a, refl))
    & turned_down (request 8 2 1 0 67 66 0 0) OtherHoldings (tt ▸ tt ▸ tt ▸ (tt, tt) ▸ (tt, tt) ▸ (tt, tt) ▸ free ▸ tt ▸ inl (only_holder, refl))
    & turned_down (request 9 1 1 0 65 64 0 0) Protected (tt ▸ tt ▸ tt ▸ (tt, tt) ▸ (tt, tt) ▸ (tt, tt) ▸ inl (λ f. f.no_gate refl, refl))
    & tt

pub worked : Worked
worked =
    record { starts = (begun, begins); holds = λ S b. subst (λ (R : State). AllByRecursion (Holds R) examples) (begins_once ladder rule begins b) table; inclusion = (tt, λ t. t) }
