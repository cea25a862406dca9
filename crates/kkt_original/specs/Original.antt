-- qp.rs, `solve_kkt`: a solution in `Units`, back in the units of the caller. E is n by m; x has n elements, b and the multipliers m.
use Rattle.std.specs.Prelude.{ℕ, List, Float}
use Rattle.folds.specs.Fold.{pick}
use Rattle.units.specs.Units as Units
use Rattle.units.specs.Units.{checked}
use Rattle.solution.specs.Solution.{Kkt, optimum, no_optimum, non_finite, singular}

-- `checked(units.original(&u), e, b, &units.column_scales)?`, then `units.original_multipliers(&multipliers)`
unfoldable pub restored : (n m : ℕ) (e b scales columns u multipliers : List Float) → Kkt
restored n m e b scales columns u multipliers =
    let x = Units.original n u scales in
    pick (checked n m x e b columns) (optimum x (Units.original_multipliers m multipliers columns)) singular

-- of a solution in `Units`; `Ok(None)` and what is refused pass
unfoldable pub original : (n m : ℕ) (e b scales columns : List Float) → Kkt → Kkt
original n m e b scales columns (optimum u multipliers) = restored n m e b scales columns u multipliers
original n m e b scales columns no_optimum = no_optimum
original n m e b scales columns non_finite = non_finite
original n m e b scales columns singular = singular
