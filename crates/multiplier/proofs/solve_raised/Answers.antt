use Rattle.std.specs.Prelude.{Float}
use Rattle.std.proofs.Common.{length-take}
use Rattle.folds.specs.Kit.{sym, ◌∙◌, arith, rules}
use lib.Seq.{length-take-le}
use Rattle.folds.specs.Tab.{taken-over}
use Rattle.vector.specs.Laws.{length-add_scalar}
use Rattle.multiplier.specs.Ready.{holds}
use Rattle.multiplier.specs.Search.{solve}
use Rattle.multiplier.proofs.solve_raised.Goals as goal

pub solve_shaped-requires : goal.solve_shaped-requires
solve_shaped-requires c =
    let p = c.requires in
    let h = p.originals in (
      holds p (omega (arith, length-take {A = Float})) (omega (arith, length-take {A = Float})),
      p.q_holds,
      p.e_holds,
    )

pub returns : goal.returns
unfolding solve
returns c = c.solve_shaped.ensures ∙ rw (taken-over _ _ (length-add_scalar _ _ _) c.add_scalar.ensures)
