-- Needs behind needs.
use Rattle.std.proofs.Common.{◌≡◌, List, [], ◌∷◌, ◌++◌, Some, Option, Err, sym, subst, inl, inr}
use Rattle.policy.specs.Order.{Order}
use Rattle.policy.specs.Rule.{Rule}
use Rattle.model.specs.declared.answer.Refusal.{Refusal}
use Rattle.model.specs.declared.request.Kind.{Kind}
use Rattle.model.specs.declared.request.Request.{Request}
use Rattle.model.specs.Form.{kind_of}
use Rattle.model.specs.Records.{State}
use Rattle.model.specs.Needs.{Need, Fails, needs, opening, further}
use Rattle.requests.specs.Checked.{Checked}

fails_first : (ns ms : List Need) (a : Refusal) → Fails ns a → Fails (ns ++ ms) a
fails_first [] ms a f = absurd f
fails_first (n ∷ ns) ms a (inl f) = inl f
fails_first (n ∷ ns) ms a (inr f) = inr (f.0, fails_first ns ms a f.1)

-- a need of the opening that fails refuses the request
pub fails_opening : (o : Order) (h : Rule) (S : State) (q : Request) (k : Kind) (a : Refusal) → kind_of q.k ≡ Some k → Fails (opening o h S q k) a → Checked o h S q (Err a)
fails_opening o h S q k a e f =
    subst (λ (found : Option Kind). Fails (needs o h S q found) a) (sym e) (fails_first (opening o h S q k) (further o h S q k) a f)
