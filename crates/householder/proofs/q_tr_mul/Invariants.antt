use Rattle.folds.specs.Kit.{◌≡◌, ◌≤◌, length, fold}
use Rattle.householder.specs.Householder.{q_tr_step}
use Rattle.householder.proofs.q_tr_mul.Given as goal

abbrev pub invariant-loop-k : goal.invariant-loop-k
invariant-loop-k l = (l.k ≤ l.m) × (length l.b ≡ length l.initial.b) × (l.b ≡ fold l.k (q_tr_step l.n l.a l.made l.p) l.initial.b)
