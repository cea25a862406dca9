use Rattle.std.specs.Prelude.{take}
use Rattle.std.proofs.Common.{length-take-le, get_or-take}
use Rattle.folds.specs.Kit.{◌≡◌, ◌<◌, over, arith, length, rules, refl}
use Rattle.sizes.specs.Sizes as Sizes
use Rattle.segments.specs.Segments.{state_at}
use Rattle.segments.specs.Start.{first}
use Rattle.folds.specs.Chosen.{chosen, chosen-step}
use Rattle.free_list.specs.FreeList.{is_free, free_indices}
use Rattle.free_list.proofs.free_indices.Goals as goal
use Rattle.free_list.proofs.free_indices.Goals.{Start}

-- as many states are gone through as are asked for
many : (c : Start) → length (take c.args.n c.args.state) ≡ c.args.n
many c =
    let room : length c.args.state ≡ Sizes.variables = search rules in length-take-le c.args.n c.args.state (omega arith)

pub loop-i-init : goal.loop-i-init
unfolding chosen over
loop-i-init c = (omega arith, refl, refl, refl)

pub loop-i-preserved : goal.loop-i-preserved
loop-i-preserved c =
    let inv = c.loop-i.invariant in
    let m = many (goal.at.loop-i-preserved c).Start in
    let h : c.loop-i.i < c.args.n = omega (arith, m, c.loop-i-test.true) in
    let s = chosen-step _ (λ t. is_free (state_at c.args.state t)) _ inv.2 inv.3 (omega (arith, m))
    (rw (c.is_free.ensures, get_or-take c.args.n c.args.state c.loop-i.i first h) at c.push_if-count.ensures.list_after) in
    (omega (arith, c.push_if-count.ensures.upper_bound), omega arith, s.0, s.1)

pub returns : goal.returns
unfolding free_indices
returns c =
    let inv = c.loop-i.invariant in
    let m = many (goal.at.returns c).Start in
    let e : c.loop-i.i ≡ c.args.n = omega (arith, m) in (rw (← e) inv.2, rw (← e) inv.3)
