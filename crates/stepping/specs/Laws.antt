-- Laws of the definitions: the moves keep x's length.
use Rattle.std.specs.Prelude.{◌≡◌, refl, Bool, false, List, ℕ, length, set, Float}
use Rattle.std.proofs.Common.{ap, ◌∙◌}
use Rattle.std.proofs.Math.ListN.{length-set}
use Rattle.folds.specs.Fold.{fold_keep, ended, Out, out}
use Rattle.arith.specs.Float.{fadd, fmul, at}
use Rattle.arith.specs.Scalar.{clamp}
use Rattle.matrix.specs.Matrix.{index}
use Rattle.stepping.specs.Stepping.{move_along, settle_one, settle}

pub length-move_along : (indices : List ℕ) (x_free direction : List Float) (step : Float) (lower upper x : List Float) →
    length (move_along indices x_free direction step lower upper x) ≡ length x
unfolding move_along
length-move_along indices x_free direction step lower upper x =
    fold_keep (λ l. length l ≡ length x) (length indices)
    (λ k l. set l (index indices k) (clamp (fadd (at x_free k) (fmul step (at direction k))) (at lower k) (at upper k))) x refl
    (λ k l h p. simp length-set p)

pub length-settle : (indices : List ℕ) (target lower upper : List Float) (tolerance : Float) (x y : List Float) (moved : Bool) →
    out moved y ≡ settle indices target lower upper tolerance x → length y ≡ length x
unfolding settle ended
length-settle indices target lower upper tolerance x y moved e =
    ap (λ (o : Out (List Float)). length (ended o)) e
    ∙ fold_keep (λ o. length (ended o) ≡ length x) (length indices)
    (λ k. settle_one (index indices k) (clamp (at target k) (at lower k) (at upper k)) tolerance) (out false x) refl
    (λ k o h p. one (index indices k) (clamp (at target k) (at lower k) (at upper k)) o p)
  where
    one : (i : ℕ) (next : Float) (o : Out (List Float)) → length (ended o) ≡ length x → length (ended (settle_one i next tolerance o)) ≡ length x
    one i next (out m l) p = unfold settle_one in simp length-set p
