use mathlib.Core.Path.{◌≡◌}
use Prim.Native.Nat.{◌≤◌}
use lib.ListN.{length}
use Rattle.block.specs.Gap.{slope_of}
use Rattle.block.specs.Ranges.{max_words}
use Rattle.format.specs.Structs.{tempo_of}
use Rattle.gap.specs.Words.{Passed}
use Rattle.gap.proofs.add_slopes.Given as goal

abbrev pub invariant-loop-i : goal.invariant-loop-i
invariant-loop-i l = (l.i ≤ length l.times) × (length l.sums ≡ max_words) × Passed l.i l.initial.sums (slope_of (tempo_of l.t) l.times) l.sums
