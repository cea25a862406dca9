use Rattle.folds.specs.Kit.{sym, arith, rules}
use lib.Seq.{length-take-le}
use Rattle.vector.specs.Laws.{take_zeros}
use Rattle.in_units.proofs.engine_within.Goals as goal

pub solve_piecewise_in_units-requires : goal.solve_piecewise_in_units-requires
solve_piecewise_in_units-requires g c =
    let p = c.requires in (
      p.0,
      p.1,
      p.2,
      record { rows = search rules; columns = search rules; q_free_holds = search rules; e_free_holds = search rules; gram_room = search rules },
      take_zeros _ _ p.5,
    )

pub overflow_mul-square : goal.overflow_mul-square
overflow_mul-square g c = omega (arith, c.requires.5, c.requires.9)
