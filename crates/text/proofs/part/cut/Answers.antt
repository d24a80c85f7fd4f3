use Rattle.std.proofs.Common.{◌≡◌, ℕ, ◌<◌, length, get_or, rules}
use Rattle.text.proofs.Cuts.{slices_cut}
use Rattle.text.proofs.part.cut.Goals as goal

pub returns : goal.returns
returns c =
    let i = c.in_ok-n.n in
    let low : i < length c.args.s.now = search rules in
    let found : get_or c.args.s.now i 0 ≡ c.args.b = search rules in
    let before : (k : ℕ) → k < i → get_or c.args.s.now k 0 ≡ c.args.b → ⊥ = search rules in
    slices_cut _ _ _ low before found
