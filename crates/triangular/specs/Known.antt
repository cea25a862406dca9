-- Known values, computed, with the factor (2 0; 1 2).
use Rattle.std.specs.Prelude.{◌≡◌, refl, true, false, [], ◌∷◌}
use Rattle.std.specs.Float.Ieee.{add, sub, mul, div, eq, of_int, of_bits}
use Rattle.folds.specs.Fold.{fold, span, walk, pick, all, out}
use Rattle.arith.specs.Float.{f0, f1, fromℕ}
use Rattle.cholesky.specs.Known.{factor}
use Rattle.triangular.specs.Triangular.{regular, known, unknown, forward, solve_lower, solve_lower_columns, known_below, unknown_back, backward}
use Rattle.triangular.specs.Triangular.{tr_solve_lower, solve}

-- 2 y = 4, y + 2 z = 8
of-forward : solve_lower factor 2 (fromℕ 4 ∷ fromℕ 8 ∷ []) ≡ out true (fromℕ 2 ∷ fromℕ 3 ∷ [])
unfolding solve_lower regular forward unknown known all fold pick add sub mul div eq of_int of_bits
of-forward = refl

-- 2 y + z = 7, 2 z = 6
of-backward : tr_solve_lower factor 2 (fromℕ 7 ∷ fromℕ 6 ∷ []) ≡ out true (fromℕ 2 ∷ fromℕ 3 ∷ [])
unfolding tr_solve_lower regular backward unknown_back known_below all span fold pick add sub mul div eq of_int of_bits
of-backward = refl

-- 4 y + 2 z = 8, 2 y + 5 z = 12
of-solve : solve factor 2 (fromℕ 8 ∷ fromℕ 12 ∷ []) ≡ f1 ∷ fromℕ 2 ∷ []
unfolding solve forward unknown known backward unknown_back known_below span fold add sub mul div of_int of_bits
of-solve = refl

-- a diagonal of 0 gives nothing, and no right side is solved, emptily
of-zero : solve_lower (f0 ∷ []) 1 (f1 ∷ []) ≡ out false (f1 ∷ [])
unfolding solve_lower regular all pick eq of_bits
of-zero = refl

of-none : solve_lower_columns (f0 ∷ []) 1 0 [] ≡ out true []
unfolding solve_lower_columns walk
of-none = refl
