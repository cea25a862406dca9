use Rattle.folds.specs.Kit.{◌≡◌, ◌≤◌}
use Rattle.format.specs.Read.{Accepted, first_of, pair_verdict}
use Rattle.bodies.proofs.list_verdict.Given as goal

abbrev pub invariant-loop-i : goal.invariant-loop-i
invariant-loop-i l = (l.i ≤ l.count) × (Accepted ≡ first_of l.i (pair_verdict l.b l.p l.words))
