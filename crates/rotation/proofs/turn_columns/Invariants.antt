use Rattle.folds.specs.Kit.{◌≡◌, ◌≤◌, length, fold}
use Rattle.rotation.specs.Rotation.{turn_in_row}
use Rattle.rotation.proofs.turn_columns.Given as goal

abbrev pub invariant-loop-k : goal.invariant-loop-k
invariant-loop-k l = (l.k ≤ l.n) × (length l.a ≡ length l.initial.a) × (l.a ≡ fold l.k (turn_in_row l.n l.p l.q l.t) l.initial.a)
