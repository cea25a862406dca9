use Rattle.folds.specs.Kit.{◌≡◌, refl, sym, ◌∙◌, ◌+◌}
use Rattle.bracket.specs.Bracket.{bracket_of}
use Rattle.bracket.specs.Ends.{Held, rising-held, ups}
use Rattle.multiplier.specs.Search.{problem, reached}
use Rattle.multiplier.specs.Ends.{double-up, reached-more, reached-done}
use Rattle.multiplier.proofs.reach.Given as goal

abbrev pub invariant-loop-step : goal.invariant-loop-step
invariant-loop-step l = Held l.t
    × (reached (problem l.n l.m l.r l.q l.c l.e l.b l.lower l.upper l.a l.row_lower l.row_upper l.at l.slopes) l.limit (bracket_of l.n (l.m + l.r) l.t)
    ≡ reached (problem l.n l.m l.r l.q l.c l.e l.b l.lower l.upper l.a l.row_lower l.row_upper l.at l.slopes) l.limit (bracket_of l.n (l.m + l.r) l.initial.t))

abbrev pub decreases-loop-step : goal.decreases-loop-step
decreases-loop-step l = ups l.t
