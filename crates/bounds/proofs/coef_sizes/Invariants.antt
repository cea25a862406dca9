use mathlib.Core.Path.{◌≡◌}
use Rattle.ints.specs.Sum.{Σ}
use Rattle.block.specs.Keeps.{coef_size}
use Rattle.format.specs.Structs.{list_of}
use Rattle.bounds.proofs.coef_sizes.Given as goal

abbrev pub invariant-loop-p : goal.invariant-loop-p
invariant-loop-p l = l.sum ≡ Σ l.p-index (coef_size (list_of l.fn.l))
