-- The two ends of a search: low is from +0 up and below high, which may be infinite, and the format holds both, as it does whatever a variable
-- of a program holds. Doubling keeps that and leaves fewer doublings. A cut that the tests `m <= low` and `m >= high` pass lies between the ends:
-- each part keeps it too, and has fewer floats. Nothing here rests on what a solve gives at an end.
use Rattle.std.specs.Prelude.{◌≡◌, ◌<◌, true, false, T, Float}
use Rattle.std.specs.Float.{binary64}
use Rattle.std.specs.Float.Ieee.{fits, lt, le}
use Rattle.std.specs.Float.Ieee.Fits.{mul-fits}
use Rattle.std.specs.Float.Ieee.Bits.{of_bits-fits}
use Rattle.arith.specs.Float.{f0, f2, fmul}
use Rattle.arith.specs.Compare.{not-le}
use Rattle.arith.specs.Order.{upward, upward-above, not_nan, between, between_falls}
use Rattle.arith.specs.Double.{zero-upward, half_max, above-zero, double-lt, doublings, doublings_fall}

pub record Ends (low high : Float) : Type 0 where
  pub low_held : T (fits binary64 low)
  pub high_held : T (fits binary64 high)
  pub from : T (upward low)
  pub rising : lt low high ≡ true

-- from 0 up to a first raise
pub first-ends : (first : Float) → T (fits binary64 first) → lt f0 first ≡ true → Ends f0 first
first-ends first g h = record { low_held = of_bits-fits binary64 0; high_held = g; from = zero-upward; rising = h }

module _ (low high : Float) (v : Ends low high) where
  pub high-upward : T (upward high)
  high-upward = upward-above low high v.from v.rising

  pub high-above : lt f0 high ≡ true
  high-above = above-zero low high v.from v.rising

  module _ (h : lt half_max high ≡ false) where
    pub double-ends : Ends high (fmul high f2)
    double-ends =
        record
        { low_held = v.high_held; high_held = mul-fits binary64 high f2; from = high-upward; rising = double-lt high v.high_held high-above h }

    pub double_falls : doublings (fmul high f2) < doublings high
    double_falls = doublings_fall high v.high_held high-above h

  module _ (m : Float) (g : T (fits binary64 m)) (u : T (upward m)) (p : le m low ≡ false) (q : le high m ≡ false) where
    over : lt low m ≡ true
    over = not-le m low (not_nan m u) (not_nan low v.from) p

    under : lt m high ≡ true
    under = not-le high m (not_nan high high-upward) (not_nan m u) q

    fewer : (between low m < between low high) × (between m high < between low high)
    fewer = between_falls low m high v.low_held g v.high_held v.from over under

    pub lower-part : Ends low m × (between low m < between low high)
    lower-part = (record { low_held = v.low_held; high_held = g; from = v.from; rising = over }, fewer.0)

    pub upper-part : Ends m high × (between m high < between low high)
    upper-part = (record { low_held = g; high_held = v.high_held; from = u; rising = under }, fewer.1)
