use Rattle.std.proofs.Common.{◌≡◌, ◌/◌, [], ◌∷◌, get_or, arith, rules}
use Rattle.sets.specs.Member.{in_set}
use Rattle.sets.proofs.set.Set.first.Goals as goal

pub returns : goal.returns
unfolding in_set
returns g c k h =
    let first : c.unwrap_or.result ≡ get_or c.args.self.now.words 0 0 = search rules in
    let z : k / 64 ≡ 0 = omega arith in
    let one : get_or (c.unwrap_or.result ∷ []) (k / 64) 0 ≡ get_or c.args.self.now.words (k / 64) 0 = cc in
    cc
