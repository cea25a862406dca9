use mathlib.Core.Path.{◌≡◌}
use Prim.Native.Nat.{◌≤◌}
use lib.ListN.{length}
use lib.IntN.{◌*ℤ◌}
use Rattle.block.specs.Gap.{coef_of}
use Rattle.block.specs.Ranges.{max_words}
use Rattle.format.specs.Structs.{list_of}
use Rattle.gap.specs.Words.{Passed}
use Rattle.gap.proofs.add_price.Given as goal

abbrev pub invariant-loop-i : goal.invariant-loop-i
invariant-loop-i l = (l.i ≤ l.n) × (length l.sums ≡ max_words) × Passed l.i l.initial.sums (λ i'. l.p *ℤ coef_of i' (list_of l.l)) l.sums
