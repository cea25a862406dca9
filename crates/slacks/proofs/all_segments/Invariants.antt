use Rattle.folds.specs.Kit.{◌≡◌, ◌≤◌, length, set, fold}
use Rattle.segments.specs.Segments.{AllCut}
use Rattle.slacks.specs.Slacks.{one_segments}
use Rattle.slacks.proofs.all_segments.Given as goal

abbrev pub invariant-loop-i : goal.invariant-loop-i
invariant-loop-i l = (l.i ≤ l.variables)
    × (length l.all ≡ length l.initial.all)
    × (l.all ≡ fold l.i (λ t l'. set l' t (one_segments l.n l.lower l.upper l.at l.slopes l.row_lower l.row_upper l.scales t)) l.initial.all)
    × AllCut l.i l.all
