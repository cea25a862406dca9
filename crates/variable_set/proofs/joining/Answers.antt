use Rattle.folds.specs.Kit.{arith, fold_call, kit}
use Rattle.variable_set.specs.Marked.{joining}
use Rattle.variable_set.proofs.joining.Goals as goal

pub count_if_new-m-requires : goal.count_if_new-m-requires
unfolding joining
count_if_new-m-requires c =
    let inv = c.loop-i.invariant in
    (c.requires.1 c.loop-i.i-index c.loop-i-test.true, omega arith)

pub loop-i-preserved : goal.loop-i-preserved
unfolding joining
loop-i-preserved c =
    let n = c.count_if_new-m.ensures in let inv = c.loop-i.invariant in
    (omega arith, omega (arith, n.upper_bound), fold_call _ _ _ inv.2 n.value)

pub returns : goal.returns
unfolding joining
returns c =
    let inv = c.loop-i.invariant in record {
      value = search kit;
      upper_bound = omega arith;
    }

pub loop-i-init : goal.loop-i-init
unfolding joining
loop-i-init c = search kit
