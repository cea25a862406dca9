-- qp.rs, in `solve_piecewise_in_units`: the free variables' moves, along a step and to a target, and whether x is where it was. `indices` are the
-- free variables.
use Rattle.std.specs.Prelude.{ℕ, Bool, ◌||◌, false, List, length, set, Float}
use Rattle.std.specs.Float.Ieee.{lt, eq}
use Rattle.folds.specs.Fold.{fold, all, Out, out}
use Rattle.arith.specs.Float.{fadd, fsub, fmul, at}
use Rattle.arith.specs.Scalar.{abs, clamp}
use Rattle.matrix.specs.Matrix.{index}

-- `for k in 0..indices.len() { x[indices[k]] = (x_free[k] + step * direction[k]).clamp(lower[k], upper[k]); }`
unfoldable pub move_along : (indices : List ℕ) (x_free direction : List Float) (step : Float) (lower upper x : List Float) → List Float
move_along indices x_free direction step lower upper x =
    fold (length indices) (λ k l. set l (index indices k) (clamp (fadd (at x_free k) (fmul step (at direction k))) (at lower k) (at upper k))) x

-- `moved |= (next - x[i]).abs() > tolerance; x[i] = next;`
unfoldable pub settle_one : (i : ℕ) (next tolerance : Float) → Out (List Float) → Out (List Float)
settle_one i next tolerance (out moved x) = out (moved || lt tolerance (abs (fsub next (at x i)))) (set x i next)

-- `let mut moved = false; for (k, &i) in indices.iter().enumerate() { let next = target[k].clamp(lower[k], upper[k]); .. }`
unfoldable pub settle : (indices : List ℕ) (target lower upper : List Float) (tolerance : Float) (x : List Float) → Out (List Float)
settle indices target lower upper tolerance x =
    fold (length indices) (λ k. settle_one (index indices k) (clamp (at target k) (at lower k) (at upper k)) tolerance) (out false x)

-- `freed_at.as_ref() == Some(&x)`: a NaN differs from itself, and -0 equals +0
unfoldable pub same_point : (n : ℕ) (a b : List Float) → Bool
same_point n a b = all n (λ i. eq (at a i) (at b i))
