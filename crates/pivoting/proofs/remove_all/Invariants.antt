use Rattle.folds.specs.Kit.{◌≡◌, ◌≤◌, length, fold}
use Rattle.folds.specs.Part.{two}
use Rattle.pivoting.specs.Pivoting.{remove_one}
use Rattle.pivoting.proofs.remove_all.Given as goal

abbrev pub invariant-loop-l : goal.invariant-loop-l
invariant-loop-l l = (l.l ≤ l.m) × (length l.left ≡ length l.initial.left) × (length l.coefficients ≡ length l.initial.coefficients) ×
    (two l.left l.coefficients ≡ fold l.l (remove_one l.n l.p l.row l.y l.remaining) (two l.initial.left l.initial.coefficients))
