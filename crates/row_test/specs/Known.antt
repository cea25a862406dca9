-- Known values, computed: a sum at its limit, and past it.
use Rattle.std.specs.Prelude.{◌≡◌, refl, true, false, [], ◌∷◌}
use Rattle.std.specs.Float.Ieee.{neg, add, sub, mul, eq, lt, le, of_int, of_bits}
use Rattle.folds.specs.Fold.{fold, both}
use Rattle.arith.specs.Float.{f0, f1, fromℕ}
use Rattle.arith.specs.Scalar.{abs}
use Rattle.reductions.specs.Reductions.{dot}
use Rattle.row_test.specs.Limits.{row_terms, within, meets_row}

of_limit : meets_row 2 (f1 ∷ fromℕ 2 ∷ []) (f1 ∷ f1 ∷ []) f0 (fromℕ 3) ≡ true
unfolding meets_row within row_terms dot fold both abs le lt eq neg add sub mul of_int of_bits
of_limit = refl

of_past : meets_row 2 (f1 ∷ fromℕ 2 ∷ []) (f1 ∷ f1 ∷ []) f0 (fromℕ 2) ≡ false
unfolding meets_row within row_terms dot fold both abs le lt eq neg add sub mul of_int of_bits
of_past = refl
