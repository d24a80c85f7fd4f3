-- What `map_err` was given, from what it gave.
use Rattle.std.proofs.Common.{◌≡◌, Ok, Err, Result, MatchResult, refl, subst}
use Rattle.std.specs.Result.{IsErrAnd}
use Rattle.std.proofs.lemmas.Result.{err_from_is_err_and}

module _ {T E D : Type 0} (P : E → D → Type 0) (told : Result T D) where
  abbrev Mapped : Result T E → Type 0
  Mapped r = MatchResult r (λ x. told ≡ Ok x) (λ e. IsErrAnd told (P e))

  pub mapped_ok : (r : Result T E) (x : T) → Mapped r → told ≡ Ok x → r ≡ Ok x
  mapped_ok (Ok y) x t e = let same : y ≡ x = cc in λ i. Ok (same i)
  mapped_ok (Err e) x t k = let p = err_from_is_err_and told t in absurd (cc)

  pub mapped_err : (r : Result T E) (d : D) → Mapped r → told ≡ Err d → (e : E) × (r ≡ Err e) × P e d
  mapped_err (Ok y) d t k = absurd (cc)
  mapped_err (Err e) d t k =
      let p = err_from_is_err_and told t in
      let same : p.0 ≡ d = cc in
      (e, refl, subst (P e) same p.2)
