-- qp.rs, `search_multiplier`'s variables, which the code has as one record: the ends with their values, `best`, `warm`, whether `step` is even.
use Rattle.std.specs.Prelude.{Bool, true, false, not, List, ℕ, take, replicate, Float}
use Rattle.std.specs.Float.Ieee.{lt, le}
use Rattle.folds.specs.Fold.{pick}
use Rattle.arith.specs.Float.{fadd, fsub, fmul, fdiv, f0, f2}
use Rattle.arith.specs.Middle.{middle}
use Rattle.bracket.specs.declared.Bracket.{Bracket}

-- with n variables and w columns: what stands past them in the code's arrays means nothing
abbrev pub bracket_of : (n w : ℕ) → Bracket → Bracket
bracket_of n w b = record {
  low = b.low;
  low_value = b.low_value;
  middle = b.middle;
  high = b.high;
  high_value = b.high_value;
  best = take n b.best;
  multipliers = take w b.multipliers;
  passes = b.passes;
  warm = take n b.warm;
  even = b.even;
}

-- `let mut low = 0.0`, `let mut high = first`, `for step in 0..`; w multipliers, and no solution is accepted yet
unfoldable pub new : (w : ℕ) (low_value : Float) (warm : List Float) (first : Float) → Bracket
new w low_value warm first = record {
  low = f0;
  low_value = low_value;
  middle = f0;
  high = first;
  high_value = f0;
  best = warm;
  multipliers = replicate w f0;
  passes = 0;
  warm = warm;
  even = true;
}

-- `(low, low_value) = (at, value)`
unfoldable pub exceed : (at value : Float) → Bracket → Bracket
exceed at value b = record {
  low = at;
  low_value = value;
  middle = b.middle;
  high = b.high;
  high_value = b.high_value;
  best = b.best;
  multipliers = b.multipliers;
  passes = b.passes;
  warm = b.warm;
  even = b.even;
}

-- `(high, high_value, best) = (at, value, x)`
unfoldable pub accept : (at value : Float) (x multipliers : List Float) (passes : ℕ) → Bracket → Bracket
accept at value x multipliers passes b = record {
  low = b.low;
  low_value = b.low_value;
  middle = b.middle;
  high = at;
  high_value = value;
  best = x;
  multipliers = multipliers;
  passes = passes;
  warm = b.warm;
  even = b.even;
}

-- `warm = x`
unfoldable pub warmed : (x : List Float) → Bracket → Bracket
warmed x b = record {
  low = b.low;
  low_value = b.low_value;
  middle = b.middle;
  high = b.high;
  high_value = b.high_value;
  best = b.best;
  multipliers = b.multipliers;
  passes = b.passes;
  warm = x;
  even = b.even;
}

-- `high *= 2.0`
unfoldable pub double : Bracket → Bracket
double b = record {
  low = b.low;
  low_value = b.low_value;
  middle = b.middle;
  high = fmul b.high f2;
  high_value = b.high_value;
  best = b.best;
  multipliers = b.multipliers;
  passes = b.passes;
  warm = b.warm;
  even = b.even;
}

-- a middle, and the step's number is even where it was odd
abbrev at_middle : Float → Bracket → Bracket
at_middle m b = record {
  low = b.low;
  low_value = b.low_value;
  middle = m;
  high = b.high;
  high_value = b.high_value;
  best = b.best;
  multipliers = b.multipliers;
  passes = b.passes;
  warm = b.warm;
  even = not b.even;
}

-- `low + (low_value - limit) / (low_value - high_value) * (high - low)`
unfoldable pub secant : (limit : Float) → Bracket → Bracket
secant limit b =
    at_middle
    (fadd b.low
    (fmul (fdiv (fsub b.low_value limit) (fsub b.low_value b.high_value)) (fsub b.high b.low)))
    b

-- `low + (high - low) / 2.0`
unfoldable pub halve : Bracket → Bracket
halve b = at_middle (middle b.low b.high) b

-- `secant > low && secant < high`
unfoldable pub inside : Bracket → Bool
inside b = pick (lt b.low b.middle) (lt b.middle b.high) false

-- `if step % 2 == 0 && secant > low && secant < high { secant } else { low + (high - low) / 2.0 }`
unfoldable pub cut : (limit : Float) → Bracket → Bracket
cut limit b = pick b.even (pick (inside (secant limit b)) (secant limit b) (halve b)) (halve b)

-- `middle <= low || middle >= high`
unfoldable pub closed : Bracket → Bool
closed b = pick (le b.middle b.low) true (le b.high b.middle)
