-- A known case, computed: E of two columns, (3, 4) and its double (6, 8). The second is taken, Y = (0.6, 0.8), T = (5, 10), and nothing is left of
-- the first.
use Rattle.std.specs.Prelude.{◌≡◌, true, false, List, [], ◌∷◌, Float}
use Rattle.std.specs.Float.{binary64}
use Rattle.std.specs.Float.Ieee.{of_bits, add, sub, mul, div, lt, le, eq, is_nan, of_int}
use Rattle.folds.specs.Fold.{fold, walk, tab, pick, both, ended}
use Rattle.folds.specs.Best.{better, best_of, last_largest}
use Rattle.arith.specs.Float.{f0, fromℕ}
use Rattle.arith.specs.Known.{squares}
use Rattle.arith.specs.Scalar.{max as fmax, total_less, negative}
use Rattle.reductions.specs.Reductions.{dot, sum_squares, norm}
use Rattle.vector.specs.Vector.{divided, copy, filled}
use Rattle.columns.specs.Columns.{put_column, column}
use Rattle.pivot_choice.specs.PivotChoice.{column_norm, largest_norm, tolerance, offered, largest_column}
use Rattle.pivoting.specs.Pivoting.{sub_column, remove_part, remove_one, remove_all, pivoting, with_basis, taken, choose, pivot_step, pivoted, factored}

abbrev doubled : List Float
doubled = fromℕ 3 ∷ fromℕ 4 ∷ fromℕ 6 ∷ fromℕ 8 ∷ []

abbrev left : List Float
left = f0 ∷ f0 ∷ fromℕ 6 ∷ fromℕ 8 ∷ []

abbrev coefficients : List Float
coefficients = fromℕ 5 ∷ f0 ∷ fromℕ 10 ∷ f0 ∷ []

-- the floats nearest to 0.6 and 0.8
abbrev basis : List Float
basis = of_bits binary64 0x3fe3_3333_3333_3333 ∷ of_bits binary64 0x3fe9_9999_9999_999a ∷ f0 ∷ f0 ∷ []

-- by the table of known roots: how a root is found stays shut
norms : (column_norm 2 left 0 ≡ f0) × (column_norm 2 doubled 0 ≡ fromℕ 5) × (column_norm 2 doubled 1 ≡ fromℕ 10)
unfolding column_norm column norm sum_squares fold tab add mul of_int of_bits
norms = squares

pub dependent : factored 2 2 2 doubled ≡ pivoting left coefficients basis (1 ∷ []) (true ∷ false ∷ [])
unfolding factored pivoted walk ended pivot_step choose taken with_basis remove_all remove_one remove_part sub_column largest_column last_largest
    best_of better offered largest_norm tolerance put_column column dot divided copy filled fold tab pick both fmax total_less negative of_bits add sub mul
    div lt le eq is_nan of_int
dependent = rw (norms.1, norms.2, norms.0)
