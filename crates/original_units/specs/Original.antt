-- qp.rs, `solve_piecewise` after the solve in `Units`: back in the units of the caller. n originals, m equality columns, r rows.
use Rattle.std.specs.Prelude.{ℕ, ◌+◌, Bool, List, Float}
use Rattle.folds.specs.Fold.{pick, both}
use Rattle.units.specs.Units as Units
use Rattle.units.specs.Units.{checked}
use Rattle.row_test.specs.Limits.{meets_rows}
use Rattle.iterate.specs.declared.SolveError.TheVariants.{SingularCovariance}
use Rattle.minimum.specs.Minimized as Engine
use Rattle.minimum.specs.Minimized.{optimal, refused}

-- `checked(x, e, b, &units.column_scales[..m])?`, of the problem's own constraints, then `meets_rows(x, rows)`
unfoldable pub feasible : (n m r : ℕ) (x e b columns a row_lower row_upper : List Float) → Bool
feasible n m r x e b columns a row_lower row_upper = both (checked n m x e b columns) (meets_rows n r x a row_lower row_upper)

-- `units.original(&u).rows(0, n)`; document 01, 'Added': with the multipliers of the last pass, `original_multipliers`, and the number of passes
unfoldable pub restored : (n m r : ℕ) (e b a row_lower row_upper scales columns u multipliers : List Float) (passes : ℕ) → Engine.Minimized
restored n m r e b a row_lower row_upper scales columns u multipliers passes =
    let x = Units.original n u scales in
    pick (feasible n m r x e b columns a row_lower row_upper) (optimal x (Units.original_multipliers (m + r) multipliers columns) passes) (refused SingularCovariance)

-- of an answer in `Units`; what is refused passes
unfoldable pub original : (n m r : ℕ) (e b a row_lower row_upper scales columns : List Float) → Engine.Minimized → Engine.Minimized
original n m r e b a row_lower row_upper scales columns (optimal u multipliers passes) =
    restored n m r e b a row_lower row_upper scales columns u multipliers passes
original n m r e b a row_lower row_upper scales columns (refused error) = refused error
