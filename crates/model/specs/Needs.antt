-- What a request needs, in the order in which it is tried, each with the refusal given if it fails.
use Rattle.std.specs.Prelude.{◌≡◌, ℕ, Bool, true, false, not, ◌&&◌, ◌||◌, T, ◌≢◌, ◌⊎◌, List, [], ◌∷◌, ◌++◌, Some, None, Option, is_some, unwrap_or}
use Rattle.sets.specs.Member.{bit}
use Rattle.policy.specs.Order.{Order}
use Rattle.policy.specs.Rule.{Rule}
use Rattle.model.specs.declared.fact.Fact.TheVariants.{Lives, Held, Right, Access, Holding}
use Rattle.model.specs.declared.fact.Mode.{Mode}
use Rattle.model.specs.declared.fact.Mode.TheVariants.{Read, Write, Execute, Own}
use Rattle.model.specs.declared.answer.Refusal.{Refusal}
use Rattle.model.specs.declared.answer.Refusal.TheVariants as refusal
use Rattle.model.specs.declared.record.Role.{Role}
use Rattle.model.specs.declared.record.Item.{Item}
use Rattle.model.specs.declared.request.Request.{Request}
use Rattle.model.specs.declared.request.Kind.{Kind}
use Rattle.model.specs.declared.request.Kind.TheVariants.{Take, Drop, Grant, Revoke, Object, Container, Link, Unlink, Delete, Open, Close, Gain, GiveUp}
use Rattle.model.specs.declared.request.Sort.{Sort}
use Rattle.model.specs.declared.request.Sort.TheVariants as sort
use Rattle.model.specs.Records.{Cards, State, Stands, account_of, role_of, item_of, plain, level, Session, root}
use Rattle.model.specs.Form.{mode_of, row, shaped, ranged, knows}

-- ## The words of the table

-- a container has a mark; an object or a session has none
abbrev pub is_container : Item → Bool
is_container i = is_some i.container

-- a container may be checked or shared; what is no container is neither
abbrev pub checked : Item → Bool
checked i = (unwrap_or i.container plain).checked

abbrev pub shared : Item → Bool
shared i = (unwrap_or i.container plain).shared

-- an administrative role manages the roles of its set; an ordinary role manages none
abbrev manages_of : Option ℕ → ℕ → Bool
manages_of None r = false
manages_of (Some set) r = bit set r

abbrev pub manages : Role → ℕ → Bool
manages a r = manages_of a.manages r

-- item n is of the sort
abbrev pub of_sort : State → Sort → ℕ → Bool
of_sort S sort.Any n = true
of_sort S sort.Live n = S.stands (Lives n)
of_sort S sort.Object n = S.stands (Lives n) && not (is_container (item_of S.cards n))
of_sort S sort.Container n = S.stands (Lives n) && is_container (item_of S.cards n)
of_sort S sort.New n = true

-- a new item's number was never used
abbrev pub fresh : State → Sort → ℕ → Bool
fresh S sort.Any n = true
fresh S sort.Live n = true
fresh S sort.Object n = true
fresh S sort.Container n = true
fresh S sort.New n = not (is_some (S.cards.items n))

-- y is neither the root nor the gate, and no account's or role's key
pub record Free (C : Cards) (y : ℕ) : Type 0 where
  pub no_root : y ≢ root
  pub no_gate : y ≢ C.gate
  pub no_account_key : (a : ℕ) → y ≢ 0 → y ≢ (account_of C a).key
  pub no_role_key : (r : ℕ) → y ≢ 0 → y ≢ (role_of C r).key

-- a container other than z holds y
abbrev pub Elsewhere : State → ℕ → ℕ → Type 0
Elsewhere S z y = (c : ℕ) × (c ≢ z) × Stands S (Holding c y)

-- no container but z holds y, and y holds nothing
pub record Alone (S : State) (z y : ℕ) : Type 0 where
  pub only : (c : ℕ) → Stands S (Holding c y) → c ≡ z
  pub empty : (e : ℕ) → ¬ Stands S (Holding y e)

-- x holds an administrative role that manages r
abbrev pub Managed : State → ℕ → ℕ → Type 0
Managed S x r = (a : ℕ) × Stands S (Held x a) × T (manages (role_of S.cards a) r)

-- x has read access to the key of role r, if it has one
abbrev pub Unlocked : State → ℕ → ℕ → Type 0
Unlocked S x r = (role_of S.cards r).key ≢ 0 → Stands S (Access x (role_of S.cards r).key Read)

-- a role that x holds has the right m on y
abbrev pub Entitled : State → ℕ → ℕ → Mode → Type 0
Entitled S x y m = (a : ℕ) × Stands S (Held x a) × Stands S (Right a y m)

-- container c passes for x: a held role has execute on it, and its level is at or below x's or it is not checked
abbrev pub Passes : Order → State → ℕ → ℕ → Type 0
Passes o S x c =
    Entitled S x c Execute × T (o.below (level S c) (level S x) || not (checked (item_of S.cards c)))

-- a chain of holdings leads from the root to the item, and each container before it passes
pub data Chain (o : Order) (S : State) (x : ℕ) : ℕ → Type 0 where
  start : Chain o S x root
  into : {c y : ℕ} → Chain o S x c → Passes o S x c → Stands S (Holding c y) → Chain o S x y

-- x reaches every live session, and the ends of such chains
abbrev pub Reaches : Order → State → ℕ → ℕ → Type 0
Reaches o S x y = (Session y × Stands S (Lives y)) ⊎ Chain o S x y

-- if the level a is the top, the voucher v has write access to the gate
abbrev pub Vouched : Order → State → ℕ → ℕ → Type 0
Vouched o S v a = a ≡ o.top → Stands S (Access v S.cards.gate Write)

-- x may take y out of z: it has write access to z, and if z is shared a role that it holds owns y
pub record MayEmpty (S : State) (x z y : ℕ) : Type 0 where
  pub writes : Stands S (Access x z Write)
  pub owns : T (shared (item_of S.cards z)) → Entitled S x y Own

-- rights and accesses that carry a level condition
abbrev pub strong : Mode → Bool
strong Read = false
strong Write = true
strong Execute = false
strong Own = true

-- ## The table

-- a refusal, and the need that it is given for
abbrev pub Need : Type 1
Need = Refusal × Type 0

module _ (o : Order) (h : Rule) (S : State) (q : Request) where
  -- the mode that m names, and the levels of items and of the role r
  abbrev mode : Mode
  mode = mode_of q.m

  infixl 20 ◌⊑◌
  abbrev ◌⊑◌ : ℕ → ℕ → Type 0
  a ⊑ b = T (o.below a b)

  abbrev lx : ℕ
  lx = level S q.x

  abbrev ly : ℕ
  ly = level S q.y

  abbrev lz : ℕ
  lz = level S q.z

  abbrev lr : ℕ
  lr = (role_of S.cards q.r).level

  -- every request begins with its form, its two sessions and its items
  abbrev pub opening : Kind → List Need
  opening k =
      (refusal.Form, T (shaped (row k) q))
      ∷ (refusal.Range, T (ranged (row k) q))
      ∷ (refusal.LevelUnknown, T (knows o (row k).l q.l))
      ∷ (refusal.NoSession, Stands S (Lives q.x) × Stands S (Lives q.v))
      ∷ (refusal.WrongItem, T (of_sort S (row k).y_is q.y) × T (of_sort S (row k).z_is q.z))
      ∷ (refusal.NumberUsed, T (fresh S (row k).y_is q.y) × T (fresh S (row k).z_is q.z))
      ∷ []

  -- an object and a container need the same
  abbrev creates : List Need
  creates =
      (refusal.RoleDenied, Managed S q.x q.r)
      ∷ (refusal.AccessMissing, Stands S (Access q.x q.z Write))
      ∷ (refusal.Levels, (q.l ⊑ lr) × (lr ⊑ lx) × (q.l ⊑ lz))
      ∷ (refusal.NoVoucher, Vouched o S q.v lz)
      ∷ []

  -- then come the needs of its kind
  abbrev pub further : Kind → List Need
  further Take =
      (refusal.RoleDenied, T (bit (account_of S.cards (S.cards.account q.x)).takes q.r))
      ∷ (refusal.KeyLocked, Unlocked S q.x q.r)
      ∷ (refusal.Levels, lr ⊑ lx)
      ∷ (refusal.NoVoucher, Vouched o S q.v lr)
      ∷ (refusal.RuleDenies, T (h (S.cards.account q.x) (S.cards.life q.x) q.r))
      ∷ []
  further Drop =
      (refusal.RoleDenied, Stands S (Held q.x q.r))
      ∷ (refusal.KeyLocked, Unlocked S q.x q.r)
      ∷ (refusal.NoVoucher, Vouched o S q.v lr)
      ∷ []
  further Grant =
      (refusal.RoleDenied, Managed S q.x q.r)
      ∷ (refusal.AccessMissing, Stands S (Access q.x q.y Own))
      ∷ (refusal.Levels, (lr ⊑ lx) × (T (strong mode) → ly ⊑ lr))
      ∷ (refusal.NoVoucher, Vouched o S q.v ly)
      ∷ []
  further Revoke =
      (refusal.RoleDenied, Managed S q.x q.r)
      ∷ (refusal.AccessMissing, Stands S (Access q.x q.y Own) × Stands S (Right q.r q.y mode))
      ∷ (refusal.Levels, lr ⊑ lx)
      ∷ (refusal.NoVoucher, Vouched o S q.v ly)
      ∷ []
  further Object = creates
  further Container = creates
  further Link =
      (refusal.Protected, Free S.cards q.y)
      ∷ (refusal.AccessMissing, Stands S (Access q.x q.z Write))
      ∷ (refusal.Levels, ly ⊑ lz)
      ∷ (refusal.NoVoucher, Vouched o S q.v lz)
      ∷ []
  further Unlink =
      (refusal.Protected, Free S.cards q.y)
      ∷ (refusal.NotInContainer, Stands S (Holding q.z q.y))
      ∷ (refusal.OtherHoldings, Elsewhere S q.z q.y)
      ∷ (refusal.AccessMissing, MayEmpty S q.x q.z q.y)
      ∷ (refusal.NoVoucher, Vouched o S q.v lz)
      ∷ []
  further Delete =
      (refusal.Protected, Free S.cards q.y)
      ∷ (refusal.NotInContainer, Stands S (Holding q.z q.y))
      ∷ (refusal.OtherHoldings, Alone S q.z q.y)
      ∷ (refusal.AccessMissing, MayEmpty S q.x q.z q.y)
      ∷ (refusal.NoVoucher, Vouched o S q.v lz)
      ∷ []
  further Open =
      (refusal.RoleDenied, Managed S q.x q.r)
      ∷ (refusal.AccessMissing, Entitled S q.x q.y Execute)
      ∷ (refusal.NotReached, Reaches o S q.x q.y)
      ∷ (refusal.Levels, (q.l ⊑ lr) × (lr ⊑ lx))
      ∷ (refusal.NoVoucher, Vouched o S q.v q.l)
      ∷ []
  further Close =
      (refusal.AccessMissing, Stands S (Access q.x q.y Own))
      ∷ (refusal.Levels, ly ⊑ lx)
      ∷ (refusal.NoVoucher, Vouched o S q.v ly)
      ∷ []
  further Gain =
      (refusal.AccessMissing, Entitled S q.x q.y mode)
      ∷ (refusal.NotReached, Reaches o S q.x q.y)
      ∷ (refusal.NoVoucher, (mode ≢ Read → Vouched o S q.v ly))
      ∷ []
  further GiveUp = (refusal.AccessMissing, Stands S (Access q.x q.y mode)) ∷ []

  abbrev pub needs : Option Kind → List Need
  needs None = (refusal.Form, ⊥) ∷ []
  needs (Some k) = opening k ++ further k

-- ## The answer to needs

-- every need is met
abbrev pub Met : List Need → Type 0
Met [] = Unit {0}
Met (n ∷ ns) = n.1 × Met ns

-- the first need that fails has the refusal a
abbrev pub Fails : List Need → Refusal → Type 0
Fails [] a = ⊥
Fails (n ∷ ns) a = (¬ n.1 × (a ≡ n.0)) ⊎ (n.1 × Fails ns a)
