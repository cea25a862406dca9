-- Known values, computed.
use Rattle.std.specs.Prelude.{◌≡◌, refl, true, false, List, [], ◌∷◌, Float}
use Rattle.std.specs.Float.{binary64}
use Rattle.std.specs.Float.Ieee.{add, sub, mul, div, lt, le, of_int, of_bits}
use Rattle.folds.specs.Fold.{fold, span, walk, pick, all, out}
use Rattle.root.specs.Root.{root}
use Rattle.arith.specs.Float.{f1, fromℕ}
use Rattle.cholesky.specs.Cholesky.{rows_dot, under_root, factor_entry, factor_below, factor_column, cholesky, positive_definite}

-- (4 2; 2 5) is (2 0; 1 2) times its transpose; the entry above the diagonal is not read and keeps its value
abbrev pub factor : List Float
factor = fromℕ 2 ∷ f1 ∷ fromℕ 9 ∷ fromℕ 2 ∷ []

of-cholesky : cholesky 2 (fromℕ 4 ∷ fromℕ 2 ∷ fromℕ 9 ∷ fromℕ 5 ∷ []) ≡ out true factor
unfolding cholesky factor_column factor_below factor_entry under_root rows_dot walk span fold pick add sub mul div lt root of_int of_bits
of-cholesky = refl

-- (1 2; 2 4) has a 0 under its second root
of-singular : cholesky 2 (f1 ∷ fromℕ 2 ∷ fromℕ 2 ∷ fromℕ 4 ∷ []) ≡ out false (f1 ∷ fromℕ 2 ∷ fromℕ 2 ∷ fromℕ 4 ∷ [])
unfolding cholesky factor_column factor_below factor_entry under_root rows_dot walk span fold pick add sub mul div lt root of_int of_bits
of-singular = refl

of-empty : cholesky 0 [] ≡ out true []
unfolding cholesky walk
of-empty = refl

-- the pivot 1 / 8192 has the floor as its square; the next float below has not
of-floor : positive_definite (of_bits binary64 0x3f20_0000_0000_0000 ∷ []) 1 ≡ true
unfolding positive_definite all mul le of_bits
of-floor = refl

of-below-floor : positive_definite (of_bits binary64 0x3f1f_ffff_ffff_ffff ∷ []) 1 ≡ false
unfolding positive_definite all mul le of_bits
of-below-floor = refl
