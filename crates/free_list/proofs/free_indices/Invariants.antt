use Rattle.folds.specs.Kit.{over, ◌≡◌, ◌≤◌, length}
use Rattle.segments.specs.Segments.{state_at}
use Rattle.folds.specs.Chosen.{chosen}
use Rattle.free_list.specs.FreeList.{is_free}
use Rattle.free_list.proofs.free_indices.Given as goal

abbrev pub invariant-loop-i : goal.invariant-loop-i
invariant-loop-i l = let those = chosen l.i (λ t. is_free (state_at l.fn.state t)) in
    (l.count ≤ l.i) × (length l.indices ≡ length l.initial.indices) × (l.count ≡ length those) × (l.indices ≡ over those l.initial.indices)
