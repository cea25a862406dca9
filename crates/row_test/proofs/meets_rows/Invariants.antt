use Rattle.folds.specs.Kit.{◌≡◌, ◌-◌, ◌≤◌, true, sym, ◌∙◌, arith, rules, alls}
use Rattle.folds.specs.Fold.{all_stop, all_turn}
use Rattle.columns.specs.Laws.{length-column}
use Rattle.row_test.specs.Limits.{meets_rows}
use Rattle.row_test.proofs.meets_rows.Given as goal

abbrev pub invariant-loop-j : goal.invariant-loop-j
invariant-loop-j l = (l.j ≤ l.r) × (true ≡ meets_rows l.n l.j l.x l.a l.row_lower l.row_upper)
