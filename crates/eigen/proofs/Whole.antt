-- Each list has as many elements as the matrix, so what is written over one is all of it. And from there to the answer.
use mathlib.Core.Path.{◌≡◌, ap, ◌∙◌}
use mathlib.Core.Bool.{Bool, true, false}
use mathlib.Core.List.{List}
use Prim.Native.Nat.{ℕ, ◌*◌}
use lib.ListN.{length}
use lib.Ieee.{Float, eq}
use Rattle.folds.specs.Fold.{over, out, pick}
use Rattle.folds.specs.Tab.{over-whole}
use Rattle.folds.specs.Part.{two}
use Rattle.arith.specs.Float.{fmul, f0, epsilon}
use Rattle.reductions.specs.Reductions.{norm, amax, all_finite}
use Rattle.vector.specs.Vector.{divided, add_scalar, filled}
use Rattle.vector.specs.Laws.{length-divided, length-add_scalar, length-filled}
use Rattle.matrix.specs.Matrix.{identity}
use Rattle.matrix.specs.Laws.{length-identity}
use Rattle.eigen.specs.Products.{Finite, finite, quotients_rotated}
use Rattle.eigen.specs.Laws.{length-symmetric, length-values, given-eigen, given-nothing}
use Rattle.eigen.specs.Eigen.{symmetric, start, tolerance, sweeps, values, Eigen, given, jacobi, symmetric_eigen}

module _ (n : ℕ) (a : List Float) (scale : Float) where
  pub started : {a₁ a₂ r₁ v₁ : List Float} {k : ℕ} (r₀ v₀ : List Float) → length a ≡ n * n → length r₀ ≡ n * n → length v₀ ≡ n * n → k ≡ length a →
      Finite n a scale
      → a₁ ≡ over (divided k a scale) a → r₁ ≡ over (add_scalar k a₁ f0) r₀ → v₁ ≡ over (identity n) v₀ → a₂ ≡ over (symmetric n r₁) a₁
      → (a₂ ≡ start n a scale) × (v₁ ≡ identity n)
  unfolding start
  started {a₁} {a₂} {r₁} {v₁} {k} r₀ v₀ la lr lv e fin ea er ev es =
      let z : k ≡ n * n = e ∙ la in
      let d : a₁ ≡ divided (n * n) a scale = over-whole (n * n) a (length-divided (n * n) a scale) la (rw z at ea) in
      let p : r₁ ≡ add_scalar (n * n) a₁ f0 = over-whole (n * n) r₀ (length-add_scalar (n * n) a₁ f0) lr (rw z at er) in
      let y : a₂ ≡ symmetric n r₁ = over-whole (n * n) a₁ (length-symmetric n r₁) (ap length d ∙ length-divided (n * n) a scale) es in
      (y ∙ ap (symmetric n) (p ∙ rw (d, quotients_rotated n a scale fin)), over-whole (n * n) v₀ (length-identity n) lv ev)

  -- where the sweeps end in a₂ and v₂
  module _ {a₁ v₁ a₂ v₂ : List Float} {ok : Bool} {k : ℕ} {size : Float} (ea : a₁ ≡ start n a scale) (ev : v₁ ≡ identity n) (ek : k ≡ n * n)
      (es : size ≡ norm k a₁)
      (ew : out ok (two a₂ v₂) ≡ sweeps n (fmul epsilon size) (two a₁ v₁)) where
    pub found : {l : List Float} (o : List Float) → ok ≡ true → length o ≡ n → l ≡ over (values n a₂ scale) o → given true l v₂ ≡ jacobi n a scale
    unfolding jacobi tolerance given
    found o h lo el = rw (← ea, ← ev, ← rw ek at es, ← ew, h, over-whole n o (length-values n a₂ scale) lo el)

    pub lost : (l v : List Float) → ok ≡ false → given false l v ≡ jacobi n a scale
    unfolding jacobi tolerance given
    lost l v h = rw (← ea, ← ev, ← rw ek at es, ← ew, h)

-- ---- the tests before it
module _ {b : Bool} (n : ℕ) (a : List Float) (len : length a ≡ n * n) (fin : b ≡ all_finite (length a) a) where
  pub refused : (l v : List Float) → b ≡ false → given false l v ≡ symmetric_eigen n a
  unfolding symmetric_eigen pick
  refused l v f = rw (← rw len at fin, f) (given-nothing l v)

  module _ {scale : Float} (yes : b ≡ true) (largest : scale ≡ amax (length a) a) where
    pub of-zero : {l v : List Float} (o p : List Float) → eq scale f0 ≡ true → length o ≡ n → length p ≡ n * n → l ≡ over (filled n f0) o →
        v ≡ over (identity n) p →
        given true l v ≡ symmetric_eigen n a
    unfolding symmetric_eigen pick
    of-zero {l} {v} o p z lo lp el ev =
        rw (← rw len at fin, yes, ← rw len at largest, z, over-whole n o (length-filled n f0) lo el, over-whole (n * n) p (length-identity n) lp ev)
        (given-eigen (filled n f0) (identity n))

    pub divisible : eq scale f0 ≡ false → Finite n a scale
    divisible z = finite n a (rw len at fin) yes (rw len at largest) z

    pub swept : {e : Eigen} → eq scale f0 ≡ false → e ≡ jacobi n a scale → e ≡ symmetric_eigen n a
    unfolding symmetric_eigen pick
    swept z g = rw (← rw len at fin, yes, ← rw len at largest, z) g
