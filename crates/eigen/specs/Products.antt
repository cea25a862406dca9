-- Where the sweeps start: of finite quotients, VᵀAV with V the identity is A + 0.
use Rattle.std.specs.Prelude.{◌≡◌, Bool, true, false, List, ℕ, ◌*◌, Float}
use Rattle.std.proofs.Common.{sym, ◌∙◌}
use Rattle.std.specs.Float.Ieee.{eq}
use Rattle.arith.specs.Float.{f0}
use Rattle.reductions.specs.Reductions.{amax, all_finite}
use Rattle.vector.specs.Vector.{divided, add_scalar}
use Rattle.vector.specs.Laws.{Holding, zero_holding, zero_twice, quotients_finite, quotients_holding}
use Rattle.matrix.specs.Identity.{identity-mul, mul-identity}
use Rattle.eigen.specs.Eigen.{rotated}

-- the entries of a over the scale
abbrev pub Finite : (n : ℕ) (a : List Float) (scale : Float) → Type 0
Finite n a scale = all_finite (n * n) (divided (n * n) a scale) ≡ true

pub finite : {b : Bool} {scale : Float} (n : ℕ) (a : List Float) → b ≡ all_finite (n * n) a → b ≡ true → scale ≡ amax (n * n) a → eq scale f0 ≡ false →
    Finite n a scale
finite n a e t m z = rw m (quotients_finite (n * n) a (sym e ∙ t) (rw m at z))

rotated-is : (n : ℕ) (a : List Float) → Holding (n * n) a → rotated n a ≡ add_scalar (n * n) a f0
unfolding rotated
rotated-is n a h = rw (identity-mul n a h, mul-identity n (add_scalar (n * n) a f0) (zero_holding (n * n) a h)) (zero_twice (n * n) a h)

pub quotients_rotated : (n : ℕ) (a : List Float) (scale : Float) → Finite n a scale →
    rotated n (divided (n * n) a scale) ≡ add_scalar (n * n) (divided (n * n) a scale) f0
quotients_rotated n a scale h = rotated-is n (divided (n * n) a scale) (quotients_holding (n * n) a scale h)
