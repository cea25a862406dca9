-- Laws of the definitions: how long the lists are, and a copy that is brought to units in place.
use Rattle.std.specs.Prelude.{◌≡◌, refl, List, ℕ, ◌*◌, length, take, Float}
use Rattle.std.proofs.Common.{◌∙◌, arith}
use Rattle.folds.specs.Fold.{over}
use Rattle.folds.specs.Tab.{taken-over}
use Rattle.vector.specs.Vector.{copy}
use Rattle.vector.specs.Laws.{length-copy, same-over}
use Rattle.matrix.specs.Laws.{length-rows_divided, length-columns_divided, rows_divided-same, columns_divided-same}
use Rattle.matrix.specs.InPlace.{rows_divided-copy, columns_divided-copy}
use Rattle.units.specs.Units.{units_k, units_e}

-- ---- lengths
pub length-units_k : (n : ℕ) (k scales : List Float) → length (units_k n k scales) ≡ n * n
unfolding units_k
length-units_k n k scales = length-columns_divided n n _ scales

pub length-units_e : (n m : ℕ) (e scales columns : List Float) → length (units_e n m e scales columns) ≡ n * m
unfolding units_e
length-units_e n m e scales columns = length-rows_divided n m _ scales

-- ---- r is a copy over the start of o, s that copy in units
pub units_k_copied : {r s : List Float} (n : ℕ) (k scales o : List Float) → r ≡ over (copy (n * n) k) o → s ≡ over (units_k n r scales) r →
    take (n * n) s ≡ units_k n k scales
unfolding units_k
units_k_copied n k scales o e f =
    let l = copy (n * n) k in
    let p = rows_divided-same n n (over l o) l (same-over (n * n) l o (omega (arith, length-copy (n * n) k))) scales scales (λ i q. refl) in
    taken-over _ _ (length-units_k n _ scales) f ∙ rw (e, p, rows_divided-copy)

pub units_e_copied : {r s : List Float} (n m : ℕ) (e scales columns o : List Float) → r ≡ over (copy (n * m) e) o →
    s ≡ over (units_e n m r scales columns) r → take (n * m) s ≡ units_e n m e scales columns
unfolding units_e
units_e_copied n m e scales columns o f g =
    let l = copy (n * m) e in
    let p = columns_divided-same n m (over l o) l (same-over (n * m) l o (omega (arith, length-copy (n * m) e))) columns columns (λ i q. refl) in
    taken-over _ _ (length-units_e n m _ scales columns) g ∙ rw (f, p, columns_divided-copy)
