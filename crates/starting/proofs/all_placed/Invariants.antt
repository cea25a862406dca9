use Rattle.folds.specs.Kit.{◌≡◌, ◌≤◌, set, fold}
use Rattle.arith.specs.Float.{at}
use Rattle.segments.specs.Segments.{segments_at}
use Rattle.segments.specs.Start.{place}
use Rattle.starting.proofs.all_placed.Given as goal

abbrev pub invariant-loop-i : goal.invariant-loop-i
invariant-loop-i l = (l.i ≤ l.n) × (l.state ≡ fold l.i (λ t l'. set l' t (place (segments_at l.segments t) (at l.x t))) l.initial.state)
