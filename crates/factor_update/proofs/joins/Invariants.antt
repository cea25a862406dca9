use Rattle.folds.specs.Kit.{◌≡◌, true, ◌≤◌, length, walk, out}
use Rattle.leaving.specs.Held.{held}
use Rattle.factor_update.specs.Held.{join_one}
use Rattle.factor_update.proofs.joins.Given as goal

abbrev pub invariant-loop-i : goal.invariant-loop-i
invariant-loop-i l = (l.i ≤ l.originals)
    × (length l.l ≡ length l.initial.l)
    × (length l.room ≡ length l.initial.room)
    × (out true (held l.s l.l) ≡ walk l.i (join_one l.q l.n l.originals l.wanted) (held l.initial.s l.initial.l))
