-- What an accepted request does: what is written, what falls and what comes.
use Rattle.std.specs.Prelude.{ℕ, ◌^◌, Bool, false, cond, not, ◌&&◌, ◌||◌, List, [], ◌∷◌, Some, None, Option, ◌==◌}
use Rattle.std.specs.Int.Bits.{bit_or}
use Rattle.model.specs.declared.fact.Fact.{Fact}
use Rattle.model.specs.declared.fact.Fact.TheVariants.{Lives, Held, Right, Access, Holding}
use Rattle.model.specs.declared.fact.Mode.TheVariants.{Own}
use Rattle.model.specs.declared.record.Mark.{Mark}
use Rattle.model.specs.declared.record.Item.{Item}
use Rattle.model.specs.declared.request.Request.{Request}
use Rattle.model.specs.declared.request.Kind.{Kind}
use Rattle.model.specs.declared.request.Kind.TheVariants.{Take, Drop, Grant, Revoke, Object, Container, Link, Unlink, Delete, Open, Close, Gain, GiveUp}
use Rattle.model.specs.Records.{Cards, State, mark_of, same, among, about}
use Rattle.model.specs.Form.{mode_of}

abbrev pub put {ℓ} : {A : Type ℓ} → ℕ → A → (ℕ → A) → ℕ → A
put i a f j = cond (j == i) a (f j)

-- What is written on the cards, what becomes of programs and parents, which facts fall, and which come.
pub record Effect : Type 0 where
  pub written : Cards → Cards
  pub programs : (ℕ → ℕ) → ℕ → ℕ
  pub parents : (ℕ → ℕ) → ℕ → ℕ
  pub falls : Fact → Bool
  pub comes : List Fact

-- ## Writing on the cards

-- the item i is now as given
abbrev pub item : ℕ → Item → Cards → Cards
item i new C =
    record { gate = C.gate; accounts = C.accounts; roles = C.roles; items = put i (Some new) C.items; account = C.account; life = C.life }

-- the item of a level, with its mark if it is a container
abbrev pub live_item : Option Mark → ℕ → Item
live_item container level = record { level = level; container = container }

-- the life record of session s has role r too
abbrev pub took : ℕ → ℕ → Cards → Cards
took s r C =
    record { gate = C.gate; accounts = C.accounts; roles = C.roles; items = C.items; account = C.account; life = put s (bit_or (C.life s) (2 ^ r)) C.life }

-- session z begins at the level, with the account of session x and no roles
abbrev pub begins : ℕ → ℕ → ℕ → Cards → Cards
begins z x level C =
    record { gate = C.gate; accounts = C.accounts; roles = C.roles; items = put z (Some (live_item None level)) C.items; account = put z (C.account x) C.account; life = put z 0 C.life }

-- ## Sorts of effect

abbrev gives : (Cards → Cards) → List Fact → Effect
gives write facts = record { written = write; programs = λ p. p; parents = λ p. p; falls = λ f. false; comes = facts }

abbrev pub ends : Fact → Effect
ends f = record { written = λ C. C; programs = λ p. p; parents = λ p. p; falls = λ g. same g f; comes = [] }

-- item i is gone: all that it had falls, a program field that names it becomes 0, and its children get its parent
abbrev pub gone : ℕ → Effect
gone i =
    record { written = λ C. C; programs = λ p t. cond (t == i || p t == i) 0 (p t); parents = λ p t. cond (p t == i) (p i) (p t); falls = about i; comes = [] }

-- ## The table

abbrev pub effect : Request → Kind → Effect
effect q Take = gives (took q.x q.r) (Held q.x q.r ∷ [])
effect q Drop = ends (Held q.x q.r)
effect q Grant = gives (λ C. C) (Right q.r q.y (mode_of q.m) ∷ [])
effect q Revoke = ends (Right q.r q.y (mode_of q.m))
effect q Object =
    gives (item q.y (live_item None q.l)) (Lives q.y ∷ Holding q.z q.y ∷ Right q.r q.y Own ∷ [])
effect q Container =
    gives (item q.y (live_item (Some (mark_of q.m)) q.l)) (Lives q.y ∷ Holding q.z q.y ∷ Right q.r q.y Own ∷ [])
effect q Link = gives (λ C. C) (Holding q.z q.y ∷ [])
effect q Unlink = ends (Holding q.z q.y)
effect q Delete = gone q.y
effect q Open =
    record { written = begins q.z q.x q.l; programs = put q.z q.y; parents = put q.z q.x; falls = λ f. false; comes = Lives q.z ∷ Access q.x q.z Own ∷ Right q.r q.z Own ∷ [] }
effect q Close = gone q.y
effect q Gain = gives (λ C. C) (Access q.x q.y (mode_of q.m) ∷ [])
effect q GiveUp = ends (Access q.x q.y (mode_of q.m))

-- what is left of the facts, with those that come
abbrev pub left : Effect → (Fact → Bool) → Fact → Bool
left e stands f = (stands f && not (e.falls f)) || among f e.comes

abbrev pub apply : Effect → State → State
apply e S =
    record { cards = e.written S.cards; program = e.programs S.program; parent = e.parents S.parent; stands = left e S.stands }
