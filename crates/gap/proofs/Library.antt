-- The library's `min` and `max` of signed numbers are those of the definitions.
use Rattle.std.proofs.Common.{◌≡◌, ℤ, arith}
use Rattle.std.proofs.lemmas.Int.{ints}
use Rattle.std.specs.Int.{int_min, int_max}
use Rattle.ints.specs.Diff.{minℤ, maxℤ}

pub smallest : (x y : ℤ) → int_min x y ≡ minℤ x y
unfolding minℤ
smallest x y = grind (arith, ints)

pub largest : (x y : ℤ) → int_max x y ≡ maxℤ x y
unfolding maxℤ
largest x y = grind (arith, ints)
