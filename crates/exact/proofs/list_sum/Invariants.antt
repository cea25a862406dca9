use mathlib.Core.Path.{◌≡◌}
use Rattle.ints.specs.Sum.{Σ}
use Rattle.block.specs.Plan.{product}
use Rattle.format.specs.Structs.{list_of}
use Rattle.exact.proofs.list_sum.Given as goal

abbrev pub invariant-loop-p : goal.invariant-loop-p
invariant-loop-p l = l.sum ≡ Σ l.p-index (product (list_of l.fn.l) l.times)
