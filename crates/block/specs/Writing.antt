-- What a write leaves of the state.
use Rattle.std.specs.Prelude.{ℕ, Bool, false, cond, not, ◌&&◌, ◌||◌, Some, None, ◌==◌}
use Rattle.model.specs.declared.fact.Fact.{Fact}
use Rattle.model.specs.declared.fact.Fact.TheVariants.{Lives, Held, Right, Access, Holding, Flow, Control}
use Rattle.model.specs.declared.record.Account.{Account}
use Rattle.model.specs.declared.record.Role.{Role}
use Rattle.model.specs.Records.{Cards, State, same, about}
use Rattle.model.specs.Effects.{put}
use Rattle.block.specs.declared.tables.Session.{Session}

-- ## Facts

-- the fact stands from now on, or no more
abbrev pub adding : Fact → State → State
adding f S =
    record { cards = S.cards; program = S.program; parent = S.parent; stands = λ g. same g f || S.stands g }

abbrev pub removing : Fact → State → State
removing f S =
    record { cards = S.cards; program = S.program; parent = S.parent; stands = λ g. not (same g f) && S.stands g }

-- ## Cards

abbrev pub writing : (Cards → Cards) → State → State
writing write S = record { cards = write S.cards; program = S.program; parent = S.parent; stands = S.stands }

abbrev pub gate_is : ℕ → Cards → Cards
gate_is n C =
    record { gate = n; accounts = C.accounts; roles = C.roles; items = C.items; account = C.account; life = C.life }

abbrev pub account_is : ℕ → Account → Cards → Cards
account_is n new C =
    record { gate = C.gate; accounts = put n (Some new) C.accounts; roles = C.roles; items = C.items; account = C.account; life = C.life }

abbrev pub role_is : ℕ → Role → Cards → Cards
role_is n new C =
    record { gate = C.gate; accounts = C.accounts; roles = put n (Some new) C.roles; items = C.items; account = C.account; life = C.life }

-- ## Sessions

abbrev pub session_is : ℕ → Session → State → State
session_is n new S =
    record {
      cards = record { gate = S.cards.gate; accounts = S.cards.accounts; roles = S.cards.roles; items = S.cards.items; account = put n new.account S.cards.account; life = put n new.life S.cards.life };
      program = put n new.program S.program;
      parent = put n new.parent S.parent;
      stands = S.stands;
    }

-- ## Nothing

-- nothing is defined, and nothing stands
abbrev pub empty : State
empty =
    record {
      cards = record { gate = 0; accounts = λ n. None; roles = λ n. None; items = λ n. None; account = λ s. 0; life = λ s. 0 };
      program = λ s. 0;
      parent = λ s. 0;
      stands = λ f. false;
    }

-- ## An item that is gone

-- facts fall
abbrev pub dropping : (Fact → Bool) → State → State
dropping falls S =
    record { cards = S.cards; program = S.program; parent = S.parent; stands = λ f. S.stands f && not (falls f) }

-- a program field that names the item becomes 0, and its children get its parent
abbrev pub untying : ℕ → State → State
untying i S =
    record {
      cards = S.cards;
      program = λ t. cond (t == i || S.program t == i) 0 (S.program t);
      parent = λ t. cond (S.parent t == i) (S.parent i) (S.parent t);
      stands = S.stands;
    }

-- both, for all that it had
abbrev pub forgetting : ℕ → State → State
forgetting i S = untying i (dropping (about i) S)

-- the facts about it as an item, and those about it as a session
abbrev pub of_item : ℕ → Fact → Bool
of_item i (Lives j) = j == i
of_item i (Held s r) = false
of_item i (Right r j m) = j == i
of_item i (Access s j m) = j == i
of_item i (Holding c e) = c == i || e == i
of_item i (Flow a b) = a == i || b == i
of_item i (Control s t) = false

abbrev pub of_session : ℕ → Fact → Bool
of_session i (Lives j) = false
of_session i (Held s r) = s == i
of_session i (Right r j m) = false
of_session i (Access s j m) = s == i
of_session i (Holding c e) = false
of_session i (Flow a b) = false
of_session i (Control s t) = s == i || t == i

-- what is left of a session: whether it is the item itself, the item, and the item's parent
abbrev pub leaving : Bool → ℕ → ℕ → Session → Session
leaving itself i parent x =
    record { account = x.account; life = x.life; program = cond (itself || x.program == i) 0 x.program; parent = cond (x.parent == i) parent x.parent }
