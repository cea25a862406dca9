use Rattle.folds.specs.Kit.{◌≡◌, length, set, fold}
use Rattle.nearest.specs.Value.{fromℤ}
use Rattle.format.specs.Structs.{anchor_at}
use Rattle.block_rows.proofs.anchor_values.Given as goal

abbrev pub invariant-loop-k : goal.invariant-loop-k
invariant-loop-k l = (length l.y ≡ length l.initial.y) × (l.y ≡ fold l.k (λ i l'. set l' i (fromℤ (anchor_at l.fn.b i).value)) l.initial.y)
