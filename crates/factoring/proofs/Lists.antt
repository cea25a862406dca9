-- The marked variables, written over the start of an array by `variable_set::rising`: the part that is lent is their list.
use mathlib.Core.Path.{◌≡◌, sym}
use mathlib.Core.Bool.{Bool}
use mathlib.Core.List.{List}
use Prim.Native.Nat.{ℕ, ◌≤◌}
use native.Mathlib.Omega.{arith}
use lib.ListN.{length, take}
use Rattle.folds.specs.Fold.{over}
use Rattle.folds.specs.Tab.{taken-over}
use Rattle.folds.specs.Marks.{rising-few}
use Rattle.sizes.specs.Sizes as Sizes
use Rattle.factoring.specs.Kept.{list_of}

-- of an array, its first k
pub record Lists (s : List Bool) (k : ℕ) (array : List ℕ) : Type 0 where
  pub lent : take k array ≡ list_of s
  pub few : k ≤ length array

pub written : {k : ℕ} {array : List ℕ} (s : List Bool) (o : List ℕ) → length array ≡ Sizes.originals → k ≡ length (list_of s) →
    array ≡ over (list_of s) o → Lists s k array
written s o l h e = record { lent = taken-over _ o (sym h) e; few = omega (arith, l, h, rising-few Sizes.originals s) }
