-- What the range-space method has of a system: the factor l of K, with no 0 on its diagonal, W with its columns at unit length, their lengths, and
-- the factor g of WᵀW.
use Rattle.std.specs.Prelude.{ℕ, ◌*◌, ◌≤◌, ◌≡◌, true, List, length, Float}
use Rattle.sizes.specs.Sizes as Sizes
use Rattle.triangular.specs.Triangular.{regular}

pub record Ranged (n m : ℕ) (l w by g : List Float) : Type 0 where
  pub few : n ≤ Sizes.originals
  pub columns : m ≤ Sizes.columns
  pub l_holds : n * n ≤ length l
  pub l_regular : regular l n ≡ true
  pub w_holds : n * m ≤ length w
  pub by_holds : m ≤ length by
  pub g_holds : m * m ≤ length g
