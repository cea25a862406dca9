use mathlib.Core.Path.{◌≡◌}
use Rattle.ints.specs.Sum.{Σ}
use Rattle.block.specs.Gap.{coef_at}
use Rattle.format.specs.Structs.{list_of}
use Rattle.exact.proofs.coef_of.Given as goal

abbrev pub invariant-loop-p : goal.invariant-loop-p
invariant-loop-p l = l.sum ≡ Σ l.p-index (coef_at l.i (list_of l.fn.l))
