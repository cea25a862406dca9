use Rattle.folds.specs.Kit.{◌≡◌, ◌≤◌, set, fold}
use Rattle.arith.specs.Float.{at}
use Rattle.segments.specs.Segments.{segments_at}
use Rattle.segments.specs.Start.{held}
use Rattle.starting.proofs.all_held.Given as goal

abbrev pub invariant-loop-i : goal.invariant-loop-i
invariant-loop-i l = (l.i ≤ l.n) × (l.x ≡ fold l.i (λ t l'. set l' t (held (segments_at l.segments t) (at l.start t))) l.initial.x)
