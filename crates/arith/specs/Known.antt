-- Known values, computed.
use Rattle.std.specs.Prelude.{◌≡◌, refl, Float}
use Rattle.std.specs.Float.{nan, binary64}
use Rattle.std.specs.Float.Ieee.{of_bits, of_int, neg}
use Rattle.root.specs.Root.{root}
use Rattle.arith.specs.Float.{f0, f1, f2, fromℕ, sqrt}

abbrev pub f4 : Float
f4 = of_bits binary64 0x4010_0000_0000_0000

-- P7: root of 4 is 2; of -0, -0; of -1, NaN
pub P7 : (sqrt f4 ≡ f2) × (sqrt (neg f0) ≡ neg f0) × (sqrt (neg f1) ≡ nan)
unfolding root of_bits neg
P7 = (refl, refl, refl)

-- more of them, for known cases of the crates above, which leave `root` shut
pub squares : (sqrt f0 ≡ f0) × (sqrt (fromℕ 25) ≡ fromℕ 5) × (sqrt (fromℕ 100) ≡ fromℕ 10)
unfolding root of_bits of_int
squares = (refl, refl, refl)
