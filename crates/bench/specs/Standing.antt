-- Whether what stands in one state stands in another, as tests.
use Rattle.std.specs.Prelude.{ℕ, ◌<◌, Bool, T, not, ◌&&◌, ◌||◌, ◌==◌}
use Rattle.model.specs.declared.fact.Fact.{Fact}
use Rattle.model.specs.declared.fact.Fact.TheVariants.{Lives, Held, Right, Access, Holding, Flow, Control}
use Rattle.model.specs.declared.fact.Mode.{Mode}
use Rattle.model.specs.declared.fact.Mode.TheVariants.{Read, Write, Execute, Own}
use Rattle.model.specs.Records.{State, level}

-- the fact stands in N, if it does in M
abbrev pub too : State → State → Fact → Bool
too M N f = not (M.stands f) || N.stands f

-- the item lives in N at its level, if it lives in M
abbrev pub item_too : State → State → ℕ → Bool
item_too M N i = not (M.stands (Lives i)) || (N.stands (Lives i) && level N i == level M i)

abbrev pub mode_too : State → State → ℕ → ℕ → Mode → Bool
mode_too M N i j m = too M N (Right i j m) && too M N (Access i j m)

-- all that stands in M between the numbers i and j stands in N
abbrev pub pair_too : State → State → ℕ → ℕ → Bool
pair_too M N i j =
    mode_too M N i j Read && (mode_too M N i j Write && (mode_too M N i j Execute && (mode_too M N i j Own && (too M N (Held i j) && (too M N (Holding i j) && (too M N (Flow i j) && too M N (Control i j)))))))

-- what M says of i, and of it and every number, stands in N
abbrev pub RowToo : State → State → ℕ → Type 0
RowToo M N i = T (item_too M N i) × ((j : ℕ) → j < 256 → T (pair_too M N i j))
