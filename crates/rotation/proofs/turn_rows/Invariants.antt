use Rattle.folds.specs.Kit.{◌≡◌, ◌≤◌, length, fold}
use Rattle.rotation.specs.Rotation.{turn_in_column}
use Rattle.rotation.proofs.turn_rows.Given as goal

abbrev pub invariant-loop-k : goal.invariant-loop-k
invariant-loop-k l = (l.k ≤ l.n) × (length l.a ≡ length l.initial.a) × (l.a ≡ fold l.k (turn_in_column l.n l.p l.q l.t) l.initial.a)
