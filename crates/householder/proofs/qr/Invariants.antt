use Rattle.folds.specs.Kit.{◌≡◌, ◌≤◌, length, fold}
use Rattle.folds.specs.Part.{two}
use Rattle.householder.specs.Householder.{qr_step}
use Rattle.householder.proofs.qr.Given as goal

abbrev pub invariant-loop-k : goal.invariant-loop-k
invariant-loop-k l = (l.k ≤ l.m) × (length l.a ≡ length l.initial.a) × (length l.made ≡ length l.initial.made) × (two l.a l.made ≡ fold l.k (qr_step l.n l.m) (two l.initial.a l.initial.made))
