use Rattle.folds.specs.Kit.{some, ◌≡◌, ◌≤◌}
use Rattle.std.specs.Option.{is_some}
use Rattle.folds.specs.Best.{best_of}
use Rattle.releasing.specs.Release.{wrong, offers, at_least}
use Rattle.releasing.proofs.wrong_ones.Given as goal

abbrev pub invariant-loop-i : goal.invariant-loop-i
invariant-loop-i l = (l.i ≤ l.n)
    × (l.best ≡ best_of at_least l.i (offers l.segments l.state l.fixed l.refused l.gradient l.pushback l.least))
    × (l.any ≡ some l.i (λ k. is_some (wrong l.segments l.state l.fixed l.gradient l.pushback l.least k)))
