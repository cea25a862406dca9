use Rattle.folds.specs.Kit.{◌≡◌, ◌≤◌, length, over}
use Rattle.folds.specs.Chosen.{chosen}
use Rattle.folds.specs.Marks.{marked}
use Rattle.variable_set.proofs.rising.Given as goal

abbrev pub invariant-loop-i : goal.invariant-loop-i
invariant-loop-i l = record {
  upper_bound : l.m ≤ l.i;
  value : l.m ≡ length (chosen l.i (λ t. marked l.fn.s t));
  list_after : l.list ≡ over (chosen l.i (λ t. marked l.fn.s t)) l.initial.list;
}
