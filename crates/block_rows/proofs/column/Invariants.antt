use Rattle.folds.specs.Kit.{◌≡◌, length, tab}
use Rattle.nearest.specs.Value.{fromℤ}
use Rattle.ints.specs.Sum.{Σ}
use Rattle.block.specs.Gap.{coef_at}
use Rattle.format.specs.Structs.{list_of}
use Rattle.block_rows.proofs.column.Given as goal

abbrev pub invariant-loop-p : goal.invariant-loop-p
invariant-loop-p l = (length l.y ≡ length l.initial.y) × (l.y ≡ tab (length l.initial.y) (λ i. fromℤ (Σ l.p-index (coef_at i (list_of l.fn.l)))))
