-- A run without its withdrawals keeps what the run kept: by a simulation, request by request.
use Rattle.std.proofs.Common.{◌≡◌, ℕ, Bool, true, false, cond, not, ◌||◌, T, eqb, ◌≢◌, List, [], ◌∷◌, Some, Option, sym, refl, ap, ◌∙◌, subst, subst₂, inl, inr, ⊎_elim}
use Rattle.policy.specs.Order.{Order}
use Rattle.policy.specs.Rule.{Rule}
use Rattle.model.specs.declared.fact.Fact.{Fact}
use Rattle.model.specs.declared.fact.Fact.TheVariants.{Lives, Held, Right, Access, Holding}
use Rattle.model.specs.declared.fact.Mode.{Mode}
use Rattle.model.specs.declared.fact.Mode.TheVariants.{Execute}
use Rattle.model.specs.declared.request.Request.{Request}
use Rattle.model.specs.declared.request.Kind.{Kind}
use Rattle.model.specs.declared.request.Kind.TheVariants.{Take, Drop, Grant, Revoke, Object, Container, Link, Unlink, Delete, Open, Close, Gain, GiveUp}
use Rattle.model.specs.declared.request.Sort.{Sort}
use Rattle.model.specs.declared.request.Sort.TheVariants as sort
use Rattle.model.specs.Answers.{Answer}
use Rattle.model.specs.Records.{Cards, State, Stands, item_of, among}
use Rattle.model.specs.Form.{kind_of, mode_of}
use Rattle.model.specs.Needs.{Need, Met, needs, further, is_container, of_sort, Managed, Unlocked, Entitled, Chain, start, into, Reaches, Vouched}
use Rattle.model.specs.Effects.{Effect, put, ends, gone, effect, apply}
use Rattle.model.specs.Flows.{Derived, before, Settles}
use Rattle.model.specs.Runs.{Becomes, Step, accepted, refused, Run, stop, step}
use Rattle.model.specs.Laws.{giving, is_giving, kept, AllAccepted, Replay, Settled}
use Rattle.model.proofs.Tests.{parts, joined}
use Rattle.model.proofs.Facts.{left_cases, left_stays, left_comes}
use Rattle.model.proofs.Following.{Extends, bind, settled}
use Rattle.model.proofs.Outcome.{one_kind, not_refused}

-- ## Needs that are met stay met where more stands

-- each need of the first list gives the need at its place in the second
abbrev Each : List Need → List Need → Type 0
Each [] [] = Unit {0}
Each [] (n ∷ ns) = ⊥
Each (m ∷ ms) [] = ⊥
Each (m ∷ ms) (n ∷ ns) = (m.1 → n.1) × Each ms ns

met_each : (ms ns : List Need) → Each ms ns → Met ms → Met ns
met_each [] [] e m = tt
met_each [] (n ∷ ns) e m = absurd e
met_each (m ∷ ms) [] e w = tt
met_each (m ∷ ms) (n ∷ ns) e w = (e.0 w.0, met_each ms ns e.1 w.1)

module _ (o : Order) (h : Rule) (q : Request) (C : Cards) (p p' u u' : ℕ → ℕ) (F G : Fact → Bool) (sub : (f : Fact) → T (F f) → T (G f)) where
  abbrev M : State
  M = record { cards = C; program = p; parent = u; stands = F }

  abbrev N : State
  N = record { cards = C; program = p'; parent = u'; stands = G }

  as_before : {A : Type 0} → A → A
  as_before a = a

  sort_stays : (s : Sort) (n : ℕ) → T (of_sort M s n) → T (of_sort N s n)
  sort_stays sort.Any n t = tt
  sort_stays sort.Live n t = sub _ t
  sort_stays sort.Object n t = let w = parts (F (Lives n)) (not (is_container (item_of C n))) t in joined _ _ (sub _ w.0) w.1
  sort_stays sort.Container n t = let w = parts (F (Lives n)) (is_container (item_of C n)) t in joined _ _ (sub _ w.0) w.1
  sort_stays sort.New n t = tt

  managed : (x r : ℕ) → Managed M x r → Managed N x r
  managed x r e = (e.0, sub _ e.1, e.2)

  unlocked : (x r : ℕ) → Unlocked M x r → Unlocked N x r
  unlocked x r w n = sub _ (w n)

  vouched : (v a : ℕ) → Vouched o M v a → Vouched o N v a
  vouched v a w t = sub _ (w t)

  entitled : (x y : ℕ) (m : Mode) → Entitled M x y m → Entitled N x y m
  entitled x y m e = (e.0, sub _ e.1, sub _ e.2)

  chain : {x y : ℕ} → Chain o M x y → Chain o N x y
  chain start = start
  chain (into {c} w p h) = into (chain w) (entitled _ c Execute p.0, p.1) (sub _ h)

  reaches : (x y : ℕ) → Reaches o M x y → Reaches o N x y
  reaches x y (inl l) = inl (l.0, sub _ l.1)
  reaches x y (inr w) = inr (chain w)

  further_stay : (k : Kind) → T (giving k) → Each (further o h M q k) (further o h N q k)
  further_stay Take t = (as_before, (unlocked _ _, (as_before, (vouched _ _, (as_before, tt)))))
  further_stay Drop t = absurd t
  further_stay Grant t = (managed _ _, (sub _, (as_before, (vouched _ _, tt))))
  further_stay Revoke t = absurd t
  further_stay Object t = (managed _ _, (sub _, (as_before, (vouched _ _, tt))))
  further_stay Container t = (managed _ _, (sub _, (as_before, (vouched _ _, tt))))
  further_stay Link t = (as_before, (sub _, (as_before, (vouched _ _, tt))))
  further_stay Unlink t = absurd t
  further_stay Delete t = absurd t
  further_stay Open t = (managed _ _, (entitled _ _ _, (reaches _ _, (as_before, (vouched _ _, tt)))))
  further_stay Close t = absurd t
  further_stay Gain t = (entitled _ _ _, (reaches _ _, (λ w n. vouched _ _ (w n), tt)))
  further_stay GiveUp t = absurd t

  needs_stay : (k : Kind) → T (giving k) → Met (needs o h M q (Some k)) → Met (needs o h N q (Some k))
  needs_stay k t =
      met_each (needs o h M q (Some k)) (needs o h N q (Some k))
      (as_before, (as_before, (as_before, (λ w. (sub _ w.0, sub _ w.1), (λ w. (sort_stays _ _ w.0, sort_stays _ _ w.1), (as_before, further_stay k t))))))

-- ## Effects that give, and effects that withdraw

abbrev Gives : Effect → Type 0
Gives e = (p r : ℕ → ℕ) → Extends p r → Extends (e.programs p) (e.programs r)

record Withdraws (e : Effect) : Type 0 where
  written : (C : Cards) → e.written C ≡ C
  programs : (p r : ℕ → ℕ) → Extends p r → Extends (e.programs p) r
  comes : (f : Fact) → ¬ T (among f e.comes)

set_program : (i a : ℕ) (p r : ℕ → ℕ) → Extends p r → Extends (put i a p) (put i a r)
set_program i a p r x t = go (eqb t i)
  where
    go : (b : Bool) → cond b a (p t) ≢ 0 → cond b a (r t) ≡ cond b a (p t)
    go true n = refl
    go false n = x t n

ends_withdraws : (f : Fact) → Withdraws (ends f)
ends_withdraws f = record { written = λ C. refl; programs = λ p r x. x; comes = λ g c. c }

gone_withdraws : (i : ℕ) → Withdraws (gone i)
gone_withdraws i = record { written = λ C. refl; programs = λ p r x t. go (p t) (r t) (x t) (eqb t i || eqb (p t) i); comes = λ g c. c }
  where
    go : (a c : ℕ) → (a ≢ 0 → c ≡ a) → (b : Bool) → cond b 0 a ≢ 0 → c ≡ cond b 0 a
    go a c x true n = absurd (n refl)
    go a c x false n = x n

gives_or_withdraws : (q : Request) (k : Kind) → cond (giving k) (Gives (effect q k)) (Withdraws (effect q k))
gives_or_withdraws q Take = λ p r x. x
gives_or_withdraws q Drop = ends_withdraws (Held q.x q.r)
gives_or_withdraws q Grant = λ p r x. x
gives_or_withdraws q Revoke = ends_withdraws (Right q.r q.y (mode_of q.m))
gives_or_withdraws q Object = λ p r x. x
gives_or_withdraws q Container = λ p r x. x
gives_or_withdraws q Link = λ p r x. x
gives_or_withdraws q Unlink = ends_withdraws (Holding q.z q.y)
gives_or_withdraws q Delete = gone_withdraws _
gives_or_withdraws q Open = set_program q.z q.y
gives_or_withdraws q Close = gone_withdraws _
gives_or_withdraws q Gain = λ p r x. x
gives_or_withdraws q GiveUp = ends_withdraws (Access q.x q.y (mode_of q.m))

-- ## One request

-- N has the cards of M, its programs, and all that stands in M
record Covers (N M : State) : Type 0 where
  cards : N.cards ≡ M.cards
  programs : Extends M.program N.program
  facts : (f : Fact) → Stands M f → Stands N f

module _ {N M : State} (c : Covers N M) where
  met_there : (o : Order) (h : Rule) (q : Request) (k : Kind) → T (giving k) → Met (needs o h M q (Some k)) → Met (needs o h N q (Some k))
  met_there o h q k t m =
      subst (λ (C : Cards). Met (needs o h (record { cards = C; program = N.program; parent = N.parent; stands = N.stands }) q (Some k))) (sym c.cards) (needs_stay o h q M.cards M.program N.program M.parent N.parent M.stands N.stands c.facts k t m)

  module _ (e : Effect) {M' : State} (b : Settles (apply e M) M') where
    abbrev Then : Cards → Fact → Type 0
    Then C f = Derived C (e.programs M.program) (Stands (apply e M)) f

    -- both monitors take it
    both : {N' : State} → Gives e → Settles (apply e N) N' → Covers N' M'
    both g d =
        record { cards = d.cards ∙ (ap e.written c.cards ∙ sym b.cards); programs = subst₂ Extends (sym b.program) (sym d.program) wider; facts = λ f s. (d.facts f).1 (bind wider (λ g l. before (too g l)) (moved f ((b.facts f).0 s))) }
      where
        wider : Extends (e.programs M.program) (e.programs N.program)
        wider = g M.program N.program c.programs

        moved : (f : Fact) → Then (e.written M.cards) f → Then (e.written N.cards) f
        moved f w = subst (λ (C : Cards). Then (e.written C) f) (sym c.cards) w

        too : (f : Fact) → Stands (apply e M) f → Stands (apply e N) f
        too f l =
            ⊎_elim (λ s. left_stays e N.stands f (c.facts f s.0) s.1) (left_comes e N.stands f) (left_cases e M.stands f l)

    -- only M takes it
    alone : Withdraws e → Settled N → Covers N M'
    alone w set =
        record { cards = same; programs = subst (λ (p : ℕ → ℕ). Extends p N.program) (sym b.program) narrower; facts = λ f s. set f (bind narrower (λ g l. before (too g l)) (moved f ((b.facts f).0 s))) }
      where
        same : N.cards ≡ M'.cards
        same = c.cards ∙ (sym (w.written M.cards) ∙ sym b.cards)

        narrower : Extends (e.programs M.program) N.program
        narrower = w.programs M.program N.program c.programs

        moved : (f : Fact) → Then (e.written M.cards) f → Then N.cards f
        moved f v = subst (λ (C : Cards). Then C f) (w.written M.cards ∙ sym c.cards) v

        too : (f : Fact) → Stands (apply e M) f → Stands N f
        too f l = ⊎_elim (λ s. c.facts f s.0) (λ v. absurd (w.comes f v)) (left_cases e M.stands f l)

-- ## A run

module _ (o : Order) (h : Rule) where
  abbrev Sim : State → List Request → List Answer → State → Type 0
  Sim M qs ans M' =
      (N N' : State) (bs : List Answer) → Covers N M → Settled N → Run o h N (kept qs ans) bs N' → AllAccepted bs × Covers N' M'

  sim_stop : (M N N' : State) (bs : List Answer) → Covers N M → Settled N → Run o h N [] bs N' → AllAccepted bs × Covers N' M
  sim_stop M N N' bs c set stop = (tt, c)

  module _ (qs : List Request) (ans : List Answer) {M M₁ M' : State} (q : Request) (k : Kind) (e : kind_of q.k ≡ Some k) (m : Met (needs o h M q (Some k))) (b : Becomes M q k M₁) (go : Sim M₁ qs ans M') where
    replayed : {N N₁ N' : State} {a : Answer} {bs : List Answer} → T (giving k) → Gives (effect q k) → Covers N M → Step o h N q a N₁ → Run o h N₁ (kept qs ans) bs N' → AllAccepted (a ∷ bs) × Covers N' M'
    replayed {N} {N₁} t g c (accepted d n w) r =
        let also = subst (λ (j : Kind). Becomes N q j N₁) (one_kind q.k e d) w in
        let rest = go _ _ _ (both c (effect q k) b g also) (settled w) r in
        ((refl, rest.0), rest.1)
    replayed {N} t g c (refused {a} f) r = absurd (not_refused o h N q a e (met_there c o h q k t m) f)

    sim_took : (N N' : State) (bs : List Answer) → Covers N M → Settled N → (w : Bool) → giving k ≡ w → cond w (Gives (effect q k)) (Withdraws (effect q k)) → Run o h N (cond w (q ∷ kept qs ans) (kept qs ans)) bs N' → AllAccepted bs × Covers N' M'
    sim_took N N' bs c set true v g (step s r) = replayed (subst T (sym v) tt) g c s r
    sim_took N N' bs c set false v g r = go N N' bs (alone c (effect q k) b g set) set r

  sim_step : (qs : List Request) (ans : List Answer) {M M₁ M' : State} {q : Request} {a : Answer} → Step o h M q a M₁ → Sim M₁ qs ans M' → Sim M (q ∷ qs) (a ∷ ans) M'
  sim_step qs ans {q} (accepted {k} e m b) go =
      λ N N' bs c set r. sim_took qs ans q k e m b go N N' bs c set (giving k) refl (gives_or_withdraws q k) (subst (λ (w : Option Kind). Run o h N (cond (is_giving w) (q ∷ kept qs ans) (kept qs ans)) bs N') e r)
  sim_step qs ans (refused f) go = go

  simulate : {M M' : State} {qs : List Request} {ans : List Answer} → Run o h M qs ans M' → Sim M qs ans M'
  simulate (stop {S}) = sim_stop S
  simulate (step {qs} {ans} s r) = sim_step qs ans s (simulate r)

  pub replay : Replay o h
  replay S M N qs ans bs set r w =
      let t = simulate r S N bs (record { cards = refl; programs = λ t n. refl; facts = λ f s. s }) set w in
      (t.0, record { items = λ i l. (t.1.facts (Lives i) l, ap (λ (C : Cards). (item_of C i).level) t.1.cards); facts = t.1.facts })
