use Rattle.folds.specs.Kit.{◌≡◌, true, false, ℕ, out, pick, kit}
use mathlib.Core.List.{List}
use lib.Ieee.{Float, lt}
use Rattle.arith.specs.Float.{f0, sqrt}
use Rattle.cholesky.specs.Cholesky.{under_root, factor_below, factor_column}
use Rattle.cholesky.proofs.factor_column.Goals as goal

module _ {d : Float} (n j : ℕ) (a : List Float) (under : d ≡ under_root n j a) where
  made : {r : Float} {b : List Float} → lt f0 d ≡ true → r ≡ sqrt d → b ≡ factor_below n j r a → out true b ≡ factor_column n j a
  unfolding factor_column pick
  made above root below = rw (below, root, ← under, above)

  failed : lt f0 d ≡ false → out false a ≡ factor_column n j a
  unfolding factor_column pick
  failed above = rw (← under, above)

pub returns-then-d : goal.returns-then-d
returns-then-d c = made _ _ _ c.under_root-d.ensures c.if-d.true c.sqrt-r.ensures c.factor_below.ensures

pub returns : goal.returns
returns c = failed _ _ _ c.under_root-d.ensures c.if-d.false
