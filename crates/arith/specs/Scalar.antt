-- What Rust has as methods of f64, each by what it gives. There is one NaN, with no sign.
use Rattle.std.specs.Prelude.{Bool, true, false, not, is_nan, Float}
use Rattle.std.specs.Float.{nan, inf, fin}
use Rattle.std.specs.Float.Ieee.{lt, eq}
use Rattle.folds.specs.Fold.{pick, both}
use Rattle.arith.specs.Float.{f1, fneg}

-- neither infinite nor NaN
unfoldable pub is_finite : Float → Bool
is_finite nan = false
is_finite (inf s) = false
is_finite (fin s m e) = true

unfoldable pub is_infinite : Float → Bool
is_infinite nan = false
is_infinite (inf s) = true
is_infinite (fin s m e) = false

-- the sign bit, of -0 too
unfoldable pub negative : Float → Bool
negative nan = false
negative (inf s) = s
negative (fin s m e) = s

unfoldable pub abs : Float → Float
abs nan = nan
abs (inf s) = inf false
abs (fin s m e) = fin false m e

-- 1 under x's sign, -1 for -0; NaN for NaN
unfoldable pub signum : Float → Float
signum x = pick (is_nan x) nan (pick (negative x) (fneg f1) f1)

-- x held between lo and hi; NaN stays
unfoldable pub clamp : (x lo hi : Float) → Float
clamp x lo hi = pick (lt x lo) lo (pick (lt hi x) hi x)

-- the larger and the smaller; of a NaN and another the other
unfoldable pub max : (a b : Float) → Float
max a b = pick (is_nan a) b (pick (lt a b) b a)

unfoldable pub min : (a b : Float) → Float
min a b = pick (is_nan a) b (pick (lt b a) b a)

-- `total_cmp` finds a strictly before b: by value, -0 before +0, and NaN after all others
unfoldable pub total_less : (a b : Float) → Bool
total_less a b = pick (is_nan a) false (pick (is_nan b) true (pick (lt a b) true (both (eq a b) (both (negative a) (not (negative b))))))
