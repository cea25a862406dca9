use Rattle.folds.specs.Kit.{◌≡◌, ◌<◌, false, length, arith, refl, over}
use Rattle.std.proofs.Common.{length-take, length-take-le, get_or-take}
use native.Mathlib.Nat.{le_antisymm}
use Rattle.sizes.specs.Sizes as Sizes
use Rattle.folds.specs.Chosen.{chosen, chosen-step}
use Rattle.folds.specs.Marks.{marked, rising}
use Rattle.variable_set.proofs.rising.Goals as goal

pub push_if-m-requires : goal.push_if-m-requires
push_if-m-requires c = let v = c.loop-i.invariant in omega (arith, length-take c.args.n c.args.s)

pub loop-i-init : goal.loop-i-init
unfolding rising chosen over
loop-i-init c = record { upper_bound = omega arith; value = refl; list_after = refl }

pub loop-i-preserved : goal.loop-i-preserved
unfolding rising chosen over
loop-i-preserved c =
    let v = c.loop-i.invariant in
    let s = c.args.s in
    let h : c.loop-i.i < c.args.n = omega (arith, length-take c.args.n c.args.s) in
    let on = rw (get_or-take c.args.n s c.loop-i.i false h) at c.push_if-m.ensures.list_after in
    let w = chosen-step _ (λ t. marked s t) _ v.value v.list_after (omega arith) on in
    record { upper_bound = omega (arith, c.push_if-m.ensures.upper_bound); value = w.0; list_after = w.1 }

pub returns : goal.returns
unfolding rising
returns c =
    let v = c.loop-i.invariant in
    let s : length c.args.s ≡ Sizes.originals = c.well_formed.0.1.0.1 in
    let e = length-take-le c.args.n c.args.s (omega arith) in
    let i : c.loop-i.i ≡ c.args.n = le_antisymm (omega (arith, e)) (omega (arith, e)) in
    record { value = rw (← i) v.value; list_after = rw (← i) v.list_after }
