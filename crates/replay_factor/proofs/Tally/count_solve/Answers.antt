use Rattle.std.proofs.Common.{ap, mul-le-mul, arith}
use Rattle.std.proofs.lemmas.Bool.{not-false}
use Rattle.std.specs.Prelude.{not}
use Rattle.triangular.specs.Pivots.{definite-regular}
use Rattle.replay_factor.proofs.Tally.count_solve.Goals as goal

pub solve_factored-found-requires : goal.solve_factored-found-requires
solve_factored-found-requires c =
    let p = c.args.system.now.sized in (
      c.requires,
      definite-regular _ _ (rw (← c.positive_definite.ensures) (not-false _ (ap not c.if-not-positive_definite.false))),
      omega (arith, mul-le-mul p.few p.columns),
      omega (arith, mul-le-mul p.columns p.columns),
      p.few,
      p.columns,
    )
