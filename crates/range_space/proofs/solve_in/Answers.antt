use Rattle.folds.specs.Kit.{◌≡◌, arith, pick}
use Rattle.folds.specs.Tab.{over-whole}
use lib.ListN.{take}
use Rattle.matrix.specs.Matrix.{columns_divided}
use Rattle.matrix.specs.Laws.{length-columns_divided}
use Rattle.range_space.specs.Factored.{found_of, with_gram, with_w, solve_factored}
use Rattle.range_space.proofs.solve_in.Goals as goal
use Rattle.range_space.proofs.solve_in.Goals.{After-divide_columns}

-- W with its columns at unit length
unit : (c : After-divide_columns) → let s = c.args.system.now in
    c.divide_columns.new.a ≡ columns_divided s.n s.m c.whiten.new.w (take s.m c.lengths-by.result)
unit c = over-whole _ _ (length-columns_divided _ _ _ _) (omega (arith, c.requires.2)) c.divide_columns.ensures

pub returns-then-not-factor_gram : goal.returns-then-not-factor_gram
unfolding found_of pick solve_factored with_w with_gram
returns-then-not-factor_gram c =
    let u = (goal.at.returns-then-not-factor_gram c).After-divide_columns in
    rw (
      ← c.whiten.ensures,
      ← c.lengths-by.ensures,
      ← unit u,
      ← c.factor_gram.ensures,
      c.if-not-factor_gram.true,
    )

pub returns : goal.returns
unfolding solve_factored with_w with_gram
returns c =
    let u = (goal.at.returns c).After-divide_columns in
    rw (
      ← c.whiten.ensures,
      ← c.lengths-by.ensures,
      ← unit u,
      ← c.factor_gram.ensures,
      c.if-not-factor_gram.false,
    ) c.solve_over.ensures
