-- One more record of a list is answered.
use Rattle.std.proofs.Common.{◌≡◌, ℕ, zero, suc, ◌+◌, ◌<◌, ◌≤◌, List, [], ◌∷◌, ◌++◌, length, get_or, take, set, refl, ap, add-one, take_all, take-suc-set}
use Rattle.policy.specs.Order.{Order}
use Rattle.policy.specs.Rule.{Rule}
use Rattle.model.specs.Answers.{Answer}
use Rattle.model.specs.declared.request.Request.{Request}
use Rattle.block.specs.declared.records.Records.{Records}
use Rattle.requests.specs.Answered.{Answered}
use Rattle.monitor.specs.declared.record.Record.{Record}
use Rattle.monitor.specs.Lists.{requests, replies, Turns, none, next}

-- only a record's answer is written
pub requests_set : (rs : List Record) (i : ℕ) (d r : Record) → r.request ≡ (get_or rs i d).request → requests (set rs i r) ≡ requests rs
requests_set [] i d r e = refl
requests_set (x ∷ xs) zero d r e = ap (λ (q : Request). q ∷ requests xs) e
requests_set (x ∷ xs) (suc i) d r e = ap (λ (qs : List Request). x.request ∷ qs) (requests_set xs i d r e)

requests_snoc : (rs : List Record) (r : Record) → requests (rs ++ (r ∷ [])) ≡ requests rs ++ (r.request ∷ [])
requests_snoc [] r = refl
requests_snoc (x ∷ xs) r = ap (λ (qs : List Request). x.request ∷ qs) (requests_snoc xs r)

replies_snoc : (rs : List Record) (r : Record) → replies (rs ++ (r ∷ [])) ≡ replies rs ++ (r.answer ∷ [])
replies_snoc [] r = refl
replies_snoc (x ∷ xs) r = ap (λ (ans : List Answer). x.answer ∷ ans) (replies_snoc xs r)

module _ (o : Order) (h : Rule) where
  after : {b b₁ b₂ : Records} {q : Request} {a : Answer} {qs : List Request} {ans : List Answer} → Turns o h b qs ans b₁ → Answered o h b₁ q a b₂ → Turns o h b (qs ++ (q ∷ [])) (ans ++ (a ∷ [])) b₂
  after none s = next s none
  after (next t r) s = next t (after r s)

  pub one_more : (b b₁ b₂ : Records) (rs : List Record) (i : ℕ) (r : Record) → i < length rs → Turns o h b (requests (take i rs)) (replies (take i rs)) b₁ → Answered o h b₁ r.request r.answer b₂ → Turns o h b (requests (take (i + 1) (set rs i r))) (replies (take (i + 1) (set rs i r))) b₂
  one_more b b₁ b₂ rs i r lt t s =
      rw (add-one, take-suc-set rs i r lt, requests_snoc (take i rs) r, replies_snoc (take i rs) r) (after t s)

  pub all_done : (b b' : Records) (rs was : List Record) (i : ℕ) → length rs ≤ i → requests rs ≡ requests was → Turns o h b (requests (take i rs)) (replies (take i rs)) b' → Turns o h b (requests was) (replies rs) b'
  all_done b b' rs was i le same t = rw (← same) (rw (take_all i rs le) at t)
