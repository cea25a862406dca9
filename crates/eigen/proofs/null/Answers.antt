use Rattle.std.proofs.Common.{get_or-take, length-take-le}
use Rattle.folds.specs.Kit.{◌≡◌, ◌<◌, arith, length, refl, over}
use lib.ListN.{take}
use mathlib.Core.Bool.{not}
use lib.Ieee.{lt, nan}
use Rattle.folds.specs.Chosen.{chosen, chosen-step}
use Rattle.arith.specs.Float.{at}
use Rattle.eigen.specs.Eigen.{null}
use Rattle.eigen.proofs.null.Goals as goal

pub loop-k-init : goal.loop-k-init
unfolding chosen over
loop-k-init c = (omega arith, refl, refl, refl)

pub loop-k-preserved : goal.loop-k-preserved
loop-k-preserved c =
    let inv = c.loop-k.invariant in
    let a = c.args in
    let t : length (take a.n a.values.now) ≡ a.n = length-take-le _ _ (omega arith) in
    let h : c.loop-k.k < a.n = omega arith in
    let s = chosen-step _ (λ t. not (lt a.cutoff (at a.values.now t))) _ inv.2 inv.3 (omega arith) (rw (get_or-take _ _ _ nan h) at c.push_if-m.ensures.list_after) in
    (omega (arith, c.push_if-m.ensures.upper_bound), omega arith, s.0, s.1)

pub returns : goal.returns
unfolding null
returns c =
    let inv = c.loop-k.invariant in
    let a = c.args in
    let t : length (take a.n a.values.now) ≡ a.n = length-take-le _ _ (omega arith) in
    let k : c.loop-k.k ≡ a.n = omega arith in
    (rw (← k) inv.2, rw (← k) inv.3)
