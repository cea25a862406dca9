use Rattle.std.specs.Float.{nan}
use Rattle.std.proofs.Common.{length-take-le, get_or-take, take}
use Rattle.folds.specs.Kit.{◌≡◌, ◌<◌, ◌∙◌, arith, length, refl}
use Rattle.columns.specs.Laws.{column-none, column_call, column_end}
use Rattle.pivoting.proofs.put_column.Goals as goal
use Rattle.pivoting.proofs.put_column.Goals.{Start}

-- as many entries of y are gone through as the column has
many : (c : Start) → length (take c.args.n c.args.y.now) ≡ c.args.n
many c = length-take-le c.args.n c.args.y.now c.requires.2

pub loop-i-init : goal.loop-i-init
loop-i-init c = (refl, column-none _ _ _ _)

pub loop-i-preserved : goal.loop-i-preserved
loop-i-preserved c =
    let inv = c.loop-i.invariant in
    let m = many (goal.at.loop-i-preserved c).Start in
    let h : c.loop-i.i < c.args.n = omega (arith, m, c.loop-i-test.true) in
    (omega arith, column_call _ _ _ _ _ inv.1 (c.put.ensures ∙ rw (get_or-take c.args.n c.args.y.now c.loop-i.i nan h)))

pub returns : goal.returns
returns c =
    let m = many (goal.at.returns c).Start in
    column_end _ _ _ _ _ _ (omega (arith, m)) (omega (arith, m)) c.loop-i.invariant.1
