-- Laws of the definitions: document 01's 'every column y to the right … becomes y − v·(2·(v·y)/(v·v)) in the same rows', entry by entry.
use Rattle.std.specs.Prelude.{◌≡◌, true, false, List, ℕ, ◌<◌, ◌≤◌, length, Float}
use Rattle.std.proofs.Common.{◌∙◌}
use Rattle.folds.specs.Fold.{out, pick}
use Rattle.folds.specs.Tab.{over_in, over_past, length-over}
use Rattle.arith.specs.Float.{fsub, fmul, at}
use Rattle.vector.specs.Vector.{sub_scaled}
use Rattle.vector.specs.Laws.{length-sub_scaled, sub_scaled-at}
use Rattle.householder.specs.Householder.{factor, reflect, reflector, zero_column}

module _ (v y : List Float) where
  abbrev rows : List Float
  rows = sub_scaled (length v) y v (factor v y)

  pub length-reflect : length v ≤ length y → length (reflect v y) ≡ length y
  unfolding reflect
  length-reflect h = length-over rows y (rw (length-sub_scaled (length v) y v (factor v y)) h)

  -- an entry in v's rows, and one past them
  pub reflect-at : (i : ℕ) → i < length v → at (reflect v y) i ≡ fsub (at y i) (fmul (at v i) (factor v y))
  unfolding reflect
  reflect-at i h =
      over_in _ rows y i (rw (length-sub_scaled (length v) y v (factor v y)) h) ∙ sub_scaled-at (length v) i h y v (factor v y)

  pub reflect_past : (i : ℕ) → length v ≤ i → at (reflect v y) i ≡ at y i
  unfolding reflect
  reflect_past i h = over_past _ rows y i (rw (length-sub_scaled (length v) y v (factor v y)) h)

-- 'a zero column makes no reflection'
pub zero-none : (h : ℕ) (x : List Float) → zero_column h x ≡ true → reflector h x ≡ out false x
unfolding reflector pick
zero-none h x e = rw e
