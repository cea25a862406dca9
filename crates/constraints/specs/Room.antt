-- What `new` asks of E, and of the room for Y, Z and T: that of a matrix n by m, or n by n for Z.
use Rattle.std.specs.Prelude.{ℕ, ◌-◌, ◌*◌, ◌≤◌, min, ◌≡◌, List, length, Float}
use Rattle.std.proofs.Common.{le_refl, le_trans, arith}
use Rattle.std.proofs.Math.Nat.{min-le_right}
use Rattle.folds.specs.Cell.{area}
use Rattle.sizes.specs.Sizes as Sizes
use Rattle.vector.specs.Vector.{Below}

pub record Room (n m : ℕ) (e coefficients range null : List Float) : Type 0 where
  pub few : n ≤ Sizes.originals
  pub columns : m ≤ Sizes.columns
  pub e_holds : n * m ≤ length e
  pub coefficients_room : n * m ≤ length coefficients
  pub range_room : n * m ≤ length range
  pub null_room : n * n ≤ length null

-- what Y, T and the pivots hold, of the rank
pub record Held (n m rank : ℕ) (range coefficients : List Float) (pivots : List ℕ) : Type 0 where
  pub columns : m ≤ Sizes.columns
  pub rank_few : rank ≤ min n m
  pub range_holds : n * rank ≤ length range
  pub coefficients_hold : min n m * m ≤ length coefficients
  pub pivots_hold : rank ≤ length pivots
  pub below : Below rank pivots m

-- a matrix of min n m rows or columns is not larger
pub rows_fit : {p : ℕ} (n m : ℕ) → p ≡ min n m → p * m ≤ n * m
rows_fit n m e = area (omega arith) (le_refl m)

pub columns_fit : (n m : ℕ) → n * min n m ≤ n * m
columns_fit n m = area (le_refl n) (min-le_right n m)

-- nor are Y and Z, of as many columns as the rank and as n less the rank
pub range-fits : {rank : ℕ} (n m : ℕ) → rank ≤ min n m → n * rank ≤ n * m
range-fits n m h = le_trans (area (le_refl n) h) (columns_fit n m)

pub null-fits : (n rank : ℕ) → n * (n - rank) ≤ n * n
null-fits n rank = area (le_refl n) (omega arith)
