use Rattle.std.specs.Float.{nan}
use Rattle.std.proofs.Common.{length-take-le, get_or-take, take}
use Rattle.folds.specs.Kit.{◌≡◌, ◌<◌, ℕ, arith, length, refl}
use lib.Ieee.{Float}
use Rattle.arith.specs.Float.{at, fsub, fmul}
use Rattle.columns.specs.Laws.{column-none, column_edit, column_end}
use Rattle.pivoting.specs.Pivoting.{sub_column}
use Rattle.pivoting.proofs.sub_column.Goals as goal
use Rattle.pivoting.proofs.sub_column.Goals.{Start}

-- as many entries of y are gone through as the column has
many : (c : Start) → length (take c.args.n c.args.y.now) ≡ c.args.n
many c = length-take-le c.args.n c.args.y.now c.requires.2

pub loop-i-init : goal.loop-i-init
loop-i-init c = (refl, column-none _ _ _ _)

pub loop-i-preserved : goal.loop-i-preserved
loop-i-preserved c =
    let s = c.args in
    let m = many (goal.at.loop-i-preserved c).Start in
    let h : c.loop-i.i < s.n = omega (arith, m, c.loop-i-test.true) in
    let edit : ℕ → Float → Float = λ k x. fsub x (fmul (at s.y.now k) s.t) in
    (omega arith, column_edit s.n s.l edit s.a.now c.loop-i.i c.loop-i.invariant.1 (rw (c.put.ensures, c.get.ensures, get_or-take s.n s.y.now c.loop-i.i nan h)))

pub returns : goal.returns
unfolding sub_column
returns c =
    let m = many (goal.at.returns c).Start in
    column_end _ _ _ _ _ _ (omega (arith, m)) (omega (arith, m)) c.loop-i.invariant.1
