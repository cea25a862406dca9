-- What is written of an engine's number. Document 01, "The block file". How a time is rounded and how a price is are two definitions, each with laws
-- of its own: nothing above this crate looks into them.
use Rattle.std.specs.Prelude.{Bool, ℤ, pos, neg_ℤ, Float}
use Rattle.std.specs.Int.Signed.{le_z}
use Rattle.folds.specs.Fold.{pick, both}
use Rattle.ints.specs.Diff.{minℤ, maxℤ}
use Rattle.arith.specs.Scalar.{is_finite}
use Rattle.nearest.specs.Nearest.{nearest}
use Rattle.block.specs.Ranges.{max_time, max_price}

-- "Each engine weight goes to the nearest whole sample, halves to even."
unfoldable pub time_of : Float → ℤ
time_of x = nearest x

-- x is finite and its time lies from 0 to 262,144, as every window does
unfoldable pub in_range : Float → Bool
in_range x = both (is_finite x) (both (le_z (pos 0) (time_of x)) (le_z (time_of x) (pos max_time)))

-- "held within ±4,294,967,296"
unfoldable pub held : ℤ → ℤ
held z = maxℤ (neg_ℤ (pos max_price)) (minℤ z (pos max_price))

-- "to the nearest whole, halves to even, held ..; a non-finite one becomes 0"
unfoldable pub price_of : Float → ℤ
price_of x = pick (is_finite x) (held (nearest x)) (pos 0)

-- "(cap from 0)"
unfoldable pub cap_price_of : Float → ℤ
cap_price_of x = maxℤ (pos 0) (price_of x)
