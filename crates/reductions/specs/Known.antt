-- Known values, computed.
use Rattle.std.specs.Prelude.{◌≡◌, refl, [], ◌∷◌}
use Rattle.std.specs.Float.{nan}
use Rattle.std.specs.Float.Ieee.{neg, add, mul, div, eq, lt, is_nan, of_int, of_bits}
use Rattle.folds.specs.Fold.{fold, pick, some}
use Rattle.root.specs.Root.{root}
use Rattle.arith.specs.Float.{fromℕ}
use Rattle.arith.specs.Scalar.{abs, max, is_infinite}
use Rattle.reductions.specs.Reductions.{dot, sum_squares, norm, amax, any_nan, quotient_squares, scaled_norm}

-- (1, 2, 3) · (4, 5, 6) is 32
of-dot : dot 3 (fromℕ 1 ∷ fromℕ 2 ∷ fromℕ 3 ∷ []) (fromℕ 4 ∷ fromℕ 5 ∷ fromℕ 6 ∷ []) ≡ fromℕ 32
unfolding dot fold add mul of_int of_bits
of-dot = refl

-- the length of (3, 4) is 5, either way
of-norm : norm 2 (fromℕ 3 ∷ fromℕ 4 ∷ []) ≡ fromℕ 5
unfolding norm sum_squares fold add mul root of_int of_bits
of-norm = refl

of-scaled-norm : scaled_norm 2 (fromℕ 3 ∷ fromℕ 4 ∷ []) ≡ fromℕ 5
unfolding scaled_norm any_nan quotient_squares amax max abs is_infinite pick some fold add mul div eq lt is_nan root of_int of_bits
of-scaled-norm = refl

-- amax passes over NaN
of-amax : amax 3 (fromℕ 1 ∷ nan ∷ neg (fromℕ 4) ∷ []) ≡ fromℕ 4
unfolding amax max abs pick fold lt is_nan neg of_int of_bits
of-amax = refl
