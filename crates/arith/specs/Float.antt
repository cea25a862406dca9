-- Short names for what `lib.Ieee` says of f64: Rust's operators, the numbers that the source writes, an element of a list, a sum.
use Rattle.std.specs.Prelude.{ℕ, false, List, pos, from_bits, slice_index_or, Float}
use Rattle.std.specs.Float.{nan, inf, binary64}
use Rattle.std.specs.Float.Ieee.{add, sub, mul, div, neg, of_int}
use Rattle.folds.specs.Fold.{fold}
use Rattle.root.specs.Root.{root}

-- a + b, a - b, a * b, a / b, -a. Comparisons are `lt`, `le`, `eq` of lib.Ieee; `a > b` is `lt b a`.
abbrev pub fadd : Float → Float → Float
fadd = add binary64

abbrev pub fsub : Float → Float → Float
fsub = sub binary64

abbrev pub fmul : Float → Float → Float
fmul = mul binary64

abbrev pub fdiv : Float → Float → Float
fdiv = div binary64

abbrev pub fneg : Float → Float
fneg = neg

-- IEEE 754's root, to nearest, ties to even
abbrev pub sqrt : Float → Float
sqrt = root binary64

-- 0.0, 0.5, 1.0, 2.0 by their bits, and infinity
abbrev pub f0 : Float
f0 = from_bits binary64 0

abbrev pub fhalf : Float
fhalf = from_bits binary64 0x3fe0_0000_0000_0000

abbrev pub f1 : Float
f1 = from_bits binary64 0x3ff0_0000_0000_0000

abbrev pub f2 : Float
f2 = from_bits binary64 0x4000_0000_0000_0000

abbrev pub infinity : Float
infinity = inf false

-- f64::EPSILON, 2 to the power -52
abbrev pub epsilon : Float
epsilon = from_bits binary64 0x3cb0_0000_0000_0000

-- n as f64
abbrev pub fromℕ : ℕ → Float
fromℕ n = of_int binary64 (pos n)

-- an element of a list; past the end it is nan
abbrev pub at : (l : List Float) (i : ℕ) → Float
at l i = slice_index_or l i nan

-- the sum of g 0, .., g (n - 1): from +0, in rising order
abbrev pub sum : (n : ℕ) (g : ℕ → Float) → Float
sum n g = fold n (λ k s. fadd s (g k)) f0
