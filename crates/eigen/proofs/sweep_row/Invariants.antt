use Rattle.folds.specs.Kit.{◌≡◌, ◌+◌, ◌-◌, ◌≤◌, length, span}
use Rattle.folds.specs.Part.{two}
use Rattle.rotation.specs.Rotation.{rotate}
use Rattle.eigen.proofs.sweep_row.Given as goal

abbrev pub invariant-loop-q : goal.invariant-loop-q
invariant-loop-q l = (l.p + 1 ≤ l.q) × (l.q ≤ l.n) × (length l.a ≡ length l.initial.a) × (length l.v ≡ length l.initial.v) × (two l.a l.v ≡ span (l.p + 1) l.q (rotate l.n l.p) (two l.initial.a l.initial.v))
