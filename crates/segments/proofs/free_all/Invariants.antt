use Rattle.folds.specs.Kit.{◌≡◌, ◌≤◌, false, set, get_or, fold}
use Rattle.segments.specs.Segments.{segments_at}
use Rattle.segments.specs.Start.{first}
use Rattle.segments.specs.Freeing.{free_one}
use Rattle.segments.proofs.free_all.Given as goal

abbrev pub invariant-loop-i : goal.invariant-loop-i
invariant-loop-i l = (l.i ≤ l.n) × (l.next ≡ fold l.i (λ t l'. set l' t (free_one (get_or l.fixed t false) (get_or l' t first) (segments_at l.segments t))) l.initial.next)
