-- What a line of the start text needs, in the order in which it is tried, each with the refusal given if it fails.
use Rattle.std.specs.Prelude.{◌≡◌, ℕ, ◌<◌, Bool, not, ◌&&◌, T, ◌≢◌, List, [], ◌∷◌, is_some, IsSome}
use Rattle.sets.specs.Member.{bit}
use Rattle.policy.specs.Order.{Order}
use Rattle.policy.specs.Rule.{Rule}
use Rattle.text.specs.declared.record.Line.{Line}
use Rattle.text.specs.declared.record.Line.TheVariants as line
use Rattle.model.specs.declared.answer.Refusal.TheVariants as refusal
use Rattle.model.specs.Records.{State, account_of, role_of, item_of, level}
use Rattle.model.specs.Form.{mode_of}
use Rattle.model.specs.Needs.{Need, Met, Reaches, is_container, strong}
use Rattle.block.specs.Reading.{state}
use Rattle.start.specs.declared.lines.Grounds.{Grounds}
use Rattle.start.specs.Setup.{again, listed}

-- ## The words of the table

-- an object, or a container, is defined under the number
abbrev pub object : State → ℕ → Bool
object S n = is_some (S.cards.items n) && not (is_container (item_of S.cards n))

abbrev pub container : State → ℕ → Bool
container S n = is_container (item_of S.cards n)

-- an ordinary role is defined under the number
abbrev pub ordinary : State → ℕ → Bool
ordinary S r = is_some (S.cards.roles r) && not (is_some (role_of S.cards r).manages)

-- each role of the set passes the test
abbrev pub Each : ℕ → (ℕ → Bool) → Type 0
Each set test = (r : ℕ) → r < 32 → T (bit set r) → T (test r)

-- a key or a program is none, or an object
abbrev pub ObjectOrNone : State → ℕ → Type 0
ObjectOrNone S n = n ≢ 0 → T (object S n)

-- ## The table

-- All lines list the state `all`, and those before this one `earlier`.
module _ (o : Order) (h : Rule) (all earlier : State) where
  infixl 20 ◌⊑◌
  abbrev ◌⊑◌ : ℕ → ℕ → Type 0
  a ⊑ b = T (o.below a b)

  -- the level conditions of write and own
  abbrev Under : ℕ → ℕ → ℕ → Type 0
  Under m a b = T (strong (mode_of m)) → a ⊑ b

  abbrev pub asks : Line → List Need
  asks (line.Root level mark) = (refusal.LineLevelUnknown, T (o.known level)) ∷ []
  asks (line.Gate gate) =
      (refusal.LineUndefined, T (object all gate)) ∷ (refusal.LineLevels, level all gate ≡ o.top) ∷ []
  asks (line.Account number level guarded roles key) =
      (refusal.LineUndefined, T (not (again (line.Account number level guarded roles key) earlier)) × Each roles (λ r. is_some (all.cards.roles r)) × ObjectOrNone all key)
      ∷ (refusal.LineLevelUnknown, T (o.known level))
      ∷ (refusal.LineLevels, Each roles (λ r. o.below (role_of all.cards r).level level) × (key ≢ 0 → (item_of all.cards key).level ≡ level))
      ∷ []
  asks (line.Role number level kind manages key) =
      (refusal.LineUndefined, T (not (again (line.Role number level kind manages key) earlier)) × Each manages (ordinary all) × ObjectOrNone all key)
      ∷ (refusal.LineLevelUnknown, T (o.known level))
      ∷ []
  asks (line.Container number level mark holder) =
      (refusal.LineUndefined, T (not (again (line.Container number level mark holder) earlier)) × T (container all holder) × (holder < number))
      ∷ (refusal.LineLevelUnknown, T (o.known level))
      ∷ (refusal.LineLevels, level ⊑ (item_of all.cards holder).level)
      ∷ []
  asks (line.Object number level holder) =
      (refusal.LineUndefined, T (not (again (line.Object number level holder) earlier)) × T (container all holder))
      ∷ (refusal.LineLevelUnknown, T (o.known level))
      ∷ (refusal.LineLevels, level ⊑ (item_of all.cards holder).level)
      ∷ []
  asks (line.Session number account level program parent) =
      (refusal.LineUndefined, T (not (again (line.Session number account level program parent) earlier)) × IsSome (all.cards.accounts account) × ObjectOrNone all program × (parent ≢ 0 → IsSome (all.cards.items parent) × (parent < number)))
      ∷ (refusal.LineLevelUnknown, T (o.known level))
      ∷ (refusal.LineLevels, (level ⊑ (account_of all.cards account).level) × (parent ≢ 0 → level ⊑ (item_of all.cards parent).level))
      ∷ []
  asks (line.Right role item right) =
      (refusal.LineUndefined, IsSome (all.cards.roles role) × IsSome (all.cards.items item))
      ∷ (refusal.LineLevels, Under right (level all item) (role_of all.cards role).level)
      ∷ []
  asks (line.Held session role) =
      (refusal.LineUndefined, IsSome (all.cards.items session) × IsSome (all.cards.roles role) × T (bit (account_of all.cards (all.cards.account session)).takes role))
      ∷ (refusal.LineLevels, (role_of all.cards role).level ⊑ level all session)
      ∷ (refusal.LineRule, T (h (all.cards.account session) (earlier.cards.life session) role))
      ∷ []
  asks (line.Access session item access) =
      (refusal.LineUndefined, IsSome (all.cards.items session) × IsSome (all.cards.items item))
      ∷ (refusal.LineLevels, Under access (level all item) (level all session))
      ∷ (refusal.LineNotReached, Reaches o all session item)
      ∷ []

-- what a line asks, on what the code tries it
abbrev pub needs : {O R : Type 0} → (O → Order) → (R → Rule) → Grounds O R → Line → List Need
needs meaning answers g l = asks (meaning g.order.now) (answers g.rule.now) (state g.all.now) (state g.earlier.now) l

-- the needs of each of these lines are met, where all lines list `all`
abbrev pub Clean : Order → Rule → State → List Line → Type 0
Clean o h all [] = Unit {0}
Clean o h all (l ∷ ls) = Met (asks o h all (listed ls) l) × Clean o h all ls
