use Rattle.folds.specs.Kit.{◌≤◌, ◌*◌, ◌∙◌, arith}
use Rattle.folds.specs.Cell.{area}
use native.Mathlib.Nat.{le_refl}
use Rattle.folds.specs.Tab.{taken-over}
use Rattle.matrix.specs.Laws.{length-mul, length-tr_mul}
use Rattle.reduced.specs.Reduced.{projected}
use Rattle.reduced.proofs.projected.Goals as goal
use Rattle.reduced.proofs.projected.Goals.{Start}

-- ZᵀK and ZᵀKZ have at most as many entries as K
entries_fit : (c : Start) → c.args.d * c.args.n ≤ c.args.n * c.args.n
entries_fit c = area c.requires.1 (le_refl _)

square-fits : (c : Start) → c.args.d * c.args.d ≤ c.args.n * c.args.n
square-fits c = area c.requires.1 c.requires.1

pub overflow_mul-entries : goal.overflow_mul-entries
overflow_mul-entries c = omega (arith, entries_fit (goal.at.overflow_mul-entries c).Start)

pub tr_mul-requires : goal.tr_mul-requires
tr_mul-requires c = (omega arith, omega arith, omega (arith, entries_fit (goal.at.tr_mul-requires c).Start))

pub slice_bounds-mul-end : goal.slice_bounds-mul-end
slice_bounds-mul-end c = omega (arith, entries_fit (goal.at.slice_bounds-mul-end c).Start)

pub returns : goal.returns
unfolding projected
returns c =
    taken-over _ _ (length-mul _ _ _ _ _) c.mul.ensures
    ∙ rw (taken-over _ _ (length-tr_mul _ _ _ _ _) c.tr_mul.ensures)
