-- A history is a run from the state that its text begins, so it has both laws.
use Rattle.std.proofs.Common.{◌≡◌, ℕ, Bool, true, false, T, List, [], ◌∷◌, ◌++◌, Ok, Err, Some, Option, OnOk, is_some, unwrap_or, sym, ap, ◌∙◌, subst}
use Rattle.std.specs.Option.{option_map}
use Rattle.policy.specs.Order.{Order, Lawful}
use Rattle.policy.specs.Rule.{Rule}
use Rattle.model.specs.Answers.{Answer, StartAnswer}
use Rattle.model.specs.declared.answer.Refusal.{Refusal}
use Rattle.model.specs.declared.request.Request.{Request}
use Rattle.model.specs.Records.{State}
use Rattle.model.specs.Runs.{Step, accepted, refused, Run, stop, step}
use Rattle.model.proofs.Joining.{one, join}
use Rattle.model.proofs.Replaying.{replay}
use Rattle.model.proofs.Isolating.{isolation}
use Rattle.block.specs.declared.block.Block.{Block}
use Rattle.block.specs.declared.records.Records.{Records}
use Rattle.block.specs.Reading.{state}
use Rattle.block.specs.Writing.{empty}
use Rattle.block.specs.Lent.{started, block_state}
use Rattle.start.specs.Starts as starts
use Rattle.start.specs.Starts.{Begins, Start}
use Rattle.start.proofs.Fitting.{begins_settled, begins_sound}
use Rattle.start.proofs.Outcome.{begins_once}
use Rattle.requests.specs.Answered as requests
use Rattle.requests.specs.Answered.{Answered}
use Rattle.monitor.specs.declared.record.Record.{Record}
use Rattle.monitor.specs.Calls as calls
use Rattle.monitor.specs.Calls.{Requested}
use Rattle.monitor.specs.Lists as lists
use Rattle.monitor.specs.Lists.{Turns, Listed, asked, told}
use Rattle.monitor.specs.Histories.{History, begun, request, list, refused_list, question, report, start_again}
use Rattle.monitor.specs.Laws.{Replayed, Isolated, Laws, LawsAfter, LawsStay}

never : {b : Bool} → b ≡ true → b ≡ false → ⊥
never t f = subst T (sym t ∙ f) tt

state_at : {b : Block} {r : Records} → b.records ≡ Some r → block_state b ≡ state r
state_at e = ap (λ (held : Option Records). unwrap_or (option_map state held) empty) e

started_at : {b : Block} {r : Records} → b.records ≡ Some r → started b ≡ true
started_at e = ap is_some e

module _ (o : Order) (h : Rule) where
  -- ## One answer

  a_step : {b b' : Records} {q : Request} {a : Answer} → Answered o h b q a b' → Step o h (state b) q a (state b')
  a_step (requests.refused f) = refused f
  a_step (requests.accepted k m s) = accepted k m s

  -- ## Answers in turn

  a_run : {b b' : Records} {qs : List Request} {ans : List Answer} → Turns o h b qs ans b' → Run o h (state b) qs ans (state b')
  a_run lists.none = stop
  a_run (lists.next s t) = step (a_step s) (a_run t)

  -- ## A history

  -- a run from the state that the text begins, to a started block
  record Ran (bytes : List ℕ) (qs : List Request) (ans : List Answer) (b : Block) : Type 0 where
    from : State
    begins : Begins o h bytes from
    runs : Run o h from qs ans (block_state b)
    started : started b ≡ true

  begins_run : {bytes : List ℕ} {b b' : Block} → Start o h b bytes (Ok tt) b' → Ran bytes [] [] b'
  begins_run {b'} (starts.accepted f t s) = record { from = block_state b'; begins = s; runs = stop; started = t }

  -- the run goes on, from the records of the block to those of the next
  goes_on : {bytes : List ℕ} {qs rs : List Request} {ans bs : List Answer} {b b' : Block} {r r' : Records} → Ran bytes qs ans b → b.records ≡ Some r → b'.records ≡ Some r' → Run o h (state r) rs bs (state r') → Ran bytes (qs ++ rs) (ans ++ bs) b'
  goes_on {qs} {rs} {ans} {bs} ran e e' more =
      record {
        from = ran.from;
        begins = ran.begins;
        runs = subst (Run o h ran.from (qs ++ rs) (ans ++ bs)) (sym (state_at e')) (join o h (subst (Run o h ran.from qs ans) (state_at e) ran.runs) more);
        started = started_at e';
      }

  answers_one : {bytes : List ℕ} {qs : List Request} {ans : List Answer} {b b' : Block} {q : Request} {a : Answer} → Ran bytes qs ans b → Requested o h b q a b' → Ran bytes (qs ++ (q ∷ [])) (ans ++ (a ∷ [])) b'
  answers_one r (calls.blank f) = absurd (never r.started f)
  answers_one r (calls.answered e e' s) = goes_on r e e' (one o h (a_step s))

  answers_all : {bytes : List ℕ} {qs : List Request} {ans : List Answer} {b b' : Block} {rs rs' : List Record} → Ran bytes qs ans b → Listed o h b rs (Ok tt) rs' b' → Ran bytes (qs ++ lists.requests rs) (ans ++ lists.replies rs') b'
  answers_all r (lists.answered e e' l s) = goes_on r e e' (a_run s.turns)

  lists_nothing : {bytes : List ℕ} {qs : List Request} {ans : List Answer} {b b' : Block} {rs rs' : List Record} {r : Refusal} → Ran bytes qs ans b → Listed o h b rs (Err r) rs' b' → Ran bytes qs ans b'
  lists_nothing r (lists.blank f) = r
  lists_nothing r (lists.too_long t l) = r

  -- a started block refuses each start
  starts_nothing : {bytes text : List ℕ} {qs : List Request} {ans : List Answer} {b b' : Block} {a : StartAnswer} → Ran bytes qs ans b → Start o h b text a b' → Ran bytes qs ans b'
  starts_nothing r (starts.again t) = r
  starts_nothing r (starts.refused f s) = r
  starts_nothing r (starts.accepted f t s) = absurd (never r.started f)

  more_none : {bytes : List ℕ} {qs : List Request} {ans : List Answer} {b : Block} → Ran bytes qs ans b → Ran bytes (qs ++ []) (ans ++ []) b
  more_none r =
      record { from = r.from; begins = r.begins; runs = join o h r.runs stop; started = r.started }

  ran : {bytes : List ℕ} {qs : List Request} {ans : List Answer} {b : Block} → History o h bytes qs ans b → Ran bytes qs ans b
  ran (begun s) = begins_run s
  ran (request H s) = answers_one (ran H) s
  ran (list H s) = answers_all (ran H) s
  ran (refused_list H s) = lists_nothing (ran H) s
  ran (question q r H s) = ran H
  ran (report H s) = ran H
  ran (start_again H s) = starts_nothing (ran H) s

  -- ## The laws

  module _ (law : Lawful o) {bytes : List ℕ} {qs : List Request} {ans : List Answer} {b : Block} (r : Ran bytes qs ans b) where
    replayed : Replayed o h bytes qs ans b
    replayed fresh N bs f k =
        replay o h fresh (block_state b) N qs ans bs (begins_settled f) (subst (λ (S : State). Run o h S qs ans (block_state b)) (begins_once o h r.begins f) r.runs) k

    isolated : Isolated o h bytes qs ans b
    isolated L fresh P Q before during after as₁ as₂ as₃ f s stretch t e e' n =
        isolation o law h L fresh P Q before during as₁ as₂ (begins_sound f) s stretch n

    laws : Laws o h bytes qs ans b
    laws = record { replay = replayed; isolation = isolated }

  module _ (law : Lawful o) where
    pub laws_of : (bytes : List ℕ) (qs : List Request) (ans : List Answer) (b : Block) → History o h bytes qs ans b → Laws o h bytes qs ans b
    laws_of bytes qs ans b H = laws law (ran H)

    pub after_request : {b b' : Block} {q : Request} {a : Answer} → Requested o h b q a b' → LawsAfter o h b (q ∷ []) (a ∷ []) b'
    after_request s bytes qs ans H = laws law (ran (request H s))

    pub after_start : {b b' : Block} {text : List ℕ} {a : StartAnswer} → Start o h b text a b' → LawsStay o h b b'
    after_start s bytes qs ans H = laws law (ran (start_again H s))

    pub from_start : {b b' : Block} {text : List ℕ} {a : StartAnswer} → Start o h b text a b' → OnOk a (Laws o h text [] [] b')
    from_start {a = Ok _} s = laws law (ran (begun s))
    from_start {a = Err _} s = tt

    pub after_list : {b b' : Block} {rs rs' : List Record} {a : Answer} → Listed o h b rs a rs' b' → LawsAfter o h b (asked a rs) (told a rs') b'
    after_list (lists.blank f) bytes qs ans H = laws law (more_none (ran H))
    after_list (lists.too_long t l) bytes qs ans H = laws law (more_none (ran H))
    after_list (lists.answered e e' l s) bytes qs ans H = laws law (ran (list H (lists.answered e e' l s)))

    pub after_look : {b : Block} → LawsStay o h b b
    after_look bytes qs ans H = laws law (ran H)
