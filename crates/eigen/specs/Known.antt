-- A known value, computed.
use Rattle.std.specs.Prelude.{◌≡◌, refl, [], ◌∷◌}
use Rattle.std.specs.Float.{binary64}
use Rattle.std.specs.Float.Ieee.{neg, add, sub, mul, div, eq, lt, le, is_nan, of_int, of_bits}
use Rattle.folds.specs.Fold.{fold, span, pick, all, tab, tab_m}
use Rattle.folds.specs.Run.{run}
use Rattle.root.specs.Root.{root}
use Rattle.arith.specs.Float.{f1, fromℕ}
use Rattle.arith.specs.Scalar.{abs, max, signum, negative, is_finite}
use Rattle.reductions.specs.Reductions.{all_finite, amax, norm, sum_squares}
use Rattle.vector.specs.Vector.{divided}
use Rattle.matrix.specs.Matrix.{identity, unit, mul as matrix_mul, cell_dot, tr_mul, columns_dot}
use Rattle.angle.specs.Angle.{tangent, turn_by, angle}
use Rattle.rotation.specs.Rotation.{turn_in_row, turn_in_column, turn_columns, turn_rows, turned, rotate}
use Rattle.rotation.specs.Known.{half}
use Rattle.eigen.specs.Eigen.{sweep_row, sweep, off_row, off_diagonal, pass, sweeps, tolerance, rotated, mean, symmetric, start, values, jacobi}
use Rattle.eigen.specs.Eigen.{symmetric_eigen, eigen}

-- the eigenvalues of (2 1; 1 2) are 1 and 3, to rounding
of-eigen : symmetric_eigen 2 (fromℕ 2 ∷ f1 ∷ f1 ∷ fromℕ 2 ∷ [])
    ≡ eigen (of_bits binary64 0x3fef_ffff_ffff_fffe ∷ of_bits binary64 0x4007_ffff_ffff_ffff ∷ []) (half ∷ neg half ∷ half ∷ half ∷ [])
unfolding symmetric_eigen jacobi start rotated symmetric mean values sweeps run pass sweep sweep_row off_row off_diagonal tolerance rotate angle tangent
    turn_by turned turn_columns turn_rows turn_in_row turn_in_column all_finite amax divided norm sum_squares identity unit matrix_mul cell_dot tr_mul columns_dot
    fold span pick all tab tab_m abs max signum negative is_finite add sub mul div neg eq lt le is_nan root of_int of_bits
of-eigen = refl
