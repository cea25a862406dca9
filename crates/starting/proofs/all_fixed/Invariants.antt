use Rattle.folds.specs.Kit.{◌≡◌, ◌≤◌, set, fold}
use Rattle.segments.specs.Segments.{segments_at}
use Rattle.segments.specs.Start.{fixed as fixed_of}
use Rattle.starting.proofs.all_fixed.Given as goal

abbrev pub invariant-loop-i : goal.invariant-loop-i
invariant-loop-i l = (l.i ≤ l.n) × (l.fixed ≡ fold l.i (λ t l'. set l' t (fixed_of (segments_at l.segments t))) l.initial.fixed)
