-- What the library says of its methods on f64 is what this crate says.
use Rattle.std.specs.Prelude.{◌≡◌, refl, false, Float}
use Rattle.std.specs.Float.{nan, inf, fin, float_is_finite, float_is_infinite, float_with_sign}
use Rattle.arith.specs.Scalar.{abs, is_finite, is_infinite}

pub finite-same : (x : Float) → float_is_finite x ≡ is_finite x
unfolding float_is_finite is_finite
finite-same nan = refl
finite-same (inf s) = refl
finite-same (fin s m e) = refl

pub infinite-same : (x : Float) → float_is_infinite x ≡ is_infinite x
unfolding float_is_infinite is_infinite
infinite-same nan = refl
infinite-same (inf s) = refl
infinite-same (fin s m e) = refl

pub abs-same : (x : Float) → float_with_sign false x ≡ abs x
unfolding float_with_sign abs
abs-same nan = refl
abs-same (inf s) = refl
abs-same (fin s m e) = refl
