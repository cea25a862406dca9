use Rattle.folds.specs.Kit.{ap, set, arith, length-set, fold_call, rules, kit}
use mir.Syntax.{w64}
use Rattle.ints.specs.Held.{called}
use Rattle.rounding.specs.Laws.{price-small, cap_small, prices_end}
use Rattle.rounding.proofs.prices_of.Goals as goal

pub loop-k-preserved : goal.loop-k-preserved
loop-k-preserved c =
    let l = c.loop-k in (
      search rules,
      simp length-set l.invariant.1,
      fold_call _ _ _ l.invariant.2
          (ap (set l.prices l.k) (called w64 c.price_of.ensures (price-small _) tt).is),
    )

pub returns : goal.returns
returns c =
    let l = c.loop-k in
    prices_end _ l.k _ l.invariant.0 c.loop-k-test.false (search rules) (omega (arith, l.invariant.1)) l.invariant.2
    (called w64 c.cap_price_of.ensures (cap_small _) tt).is

pub loop-k-init : goal.loop-k-init
loop-k-init c = search kit
