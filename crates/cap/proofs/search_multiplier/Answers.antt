use Rattle.folds.specs.Kit.{sym, ◌∙◌, arith, rules}
use Rattle.folds.specs.Tab.{taken-over}
use Rattle.vector.specs.Laws.{length-copy, copy-all}
use Rattle.cap.specs.Laws.{search_from}
use Rattle.cap.proofs.search_multiplier.Goals as goal

pub returns : goal.returns
returns c =
    let warm-is = taken-over _ _ (length-copy _ _) c.copy.ensures ∙ copy-all _ _ c.requires.2 in
    rw warm-is at
    (search_from _ _ _ _ _ _ _ _ _ _ _ _ _ _ _ _ _ c.solve_raised-solved.ensures c.search_by.ensures)

pub copy-requires : goal.copy-requires
copy-requires c = let p = c.requires in (omega (arith, p.2), omega (arith, p.0.originals))

pub solve_raised-solved-requires : goal.solve_raised-solved-requires
solve_raised-solved-requires c = c.requires.0

pub search_by-requires : goal.search_by-requires
search_by-requires c = let p = c.requires in (p.0, p.1)
