-- The accepted requests that give, record by record.
use Rattle.std.proofs.Common.{◌≡◌, ℕ, ◌+◌, ◌<◌, ◌≤◌, Bool, true, false, cond, List, [], ◌∷◌, ◌++◌, length, Ok, Err, get_or, drop, sym, refl, ap, ◌∙◌, append_assoc, append-nil}
use Rattle.std.specs.Result.{is_ok}
use Rattle.std.proofs.lemmas.Bool.{false≢true}
use Rattle.std.proofs.lemmas.List.{drop_more, drop_all}
use Rattle.policy.specs.Order.{Order}
use Rattle.policy.specs.Rule.{Rule}
use Rattle.model.specs.Answers.{Answer}
use Rattle.model.specs.declared.request.Request.{Request}
use Rattle.model.specs.Form.{kind_of}
use Rattle.model.specs.Laws.{kept, is_giving}
use Rattle.block.specs.declared.block.Block.{Block}
use Rattle.monitor.specs.declared.record.Record.{Record}
use Rattle.monitor.specs.Lists.{requests, replies, asked, told, Listed, blank, too_long, answered}

-- what is kept of records
abbrev pub kept_of : List Record → List Request
kept_of rs = kept (requests rs) (replies rs)

chosen : (b : Bool) (q : Request) (qs : List Request) → cond b (q ∷ qs) qs ≡ cond b (q ∷ []) [] ++ qs
chosen true q qs = refl
chosen false q qs = refl

first : (q : Request) (a : Answer) (qs : List Request) (ans : List Answer) → kept (q ∷ qs) (a ∷ ans) ≡ kept (q ∷ []) (a ∷ []) ++ kept qs ans
first q (Ok _) qs ans = chosen (is_giving (kind_of q.k)) q (kept qs ans)
first q (Err _) qs ans = refl

pub one_more : {gs' whole : List Request} (gs : List Request) (rs : List Record) (i : ℕ) (d : Record) → i < length rs → gs ++ kept_of (drop i rs) ≡ whole → gs' ≡ gs ++ kept ((get_or rs i d).request ∷ []) ((get_or rs i d).answer ∷ []) → gs' ++ kept_of (drop (i + 1) rs) ≡ whole
one_more gs rs i d lt inv e =
    let r = get_or rs i d in
    let rest = drop (i + 1) rs in
    ap (λ (xs : List Request). xs ++ kept_of rest) e
    ∙ append_assoc gs (kept (r.request ∷ []) (r.answer ∷ [])) (kept_of rest)
    ∙ ap (λ (xs : List Request). gs ++ xs) (sym (first r.request r.answer (requests rest) (replies rest)))
    ∙ ap (λ (xs : List Record). gs ++ kept_of xs) (sym (drop_more rs i d lt))
    ∙ inv

pub all_done : {whole : List Request} (gs : List Request) (rs : List Record) (i : ℕ) → length rs ≤ i → gs ++ kept_of (drop i rs) ≡ whole → gs ≡ whole
all_done gs rs i le inv = sym (append-nil gs) ∙ ap (λ (xs : List Record). gs ++ kept_of xs) (sym (drop_all i rs le)) ∙ inv

-- an accepted list asked what its records still say
pub accepted : {o : Order} {h : Rule} {b b' : Block} {rs rs' : List Record} {a : Answer} {gs' : List Request} (gs : List Request) → Listed o h b rs a rs' b' → is_ok a ≡ true → gs' ≡ gs ++ kept_of rs' → gs' ≡ gs ++ kept (asked a rs) (told a rs')
accepted gs (blank s) e k = absurd (false≢true e)
accepted gs (too_long s l) e k = absurd (false≢true e)
accepted {rs' = rs'} gs (answered s u l t) e k = k ∙ ap (λ (qs : List Request). gs ++ kept qs (replies rs')) t.stays
