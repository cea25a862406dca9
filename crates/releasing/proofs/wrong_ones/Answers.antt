use Rattle.folds.specs.Kit.{some, ◌∙◌, ap, arith, kit, fold_call}
use native.Mathlib.Nat.{le_antisymm}
use Rattle.std.specs.Option.{is_some}
use Rattle.folds.specs.Fold.{some_or}
use Rattle.folds.specs.Best.{best_of, last_largest}
use Rattle.releasing.specs.Release.{wrong, entering, any_wrong}
use Rattle.releasing.proofs.wrong_ones.Goals as goal

pub wrong_one-wrong-requires : goal.wrong_one-wrong-requires
wrong_one-wrong-requires c =
    let f = c.before.before.before.before.before.before in
    (f.requires.5 _ c.loop-i-test.true, f.requires.6 _ c.loop-i-test.true)

pub loop-i-preserved : goal.loop-i-preserved
unfolding best_of wrong
loop-i-preserved c =
    let one = c.wrong_one-wrong in
    let inv = c.loop-i.invariant in (
      omega arith,
      fold_call _ _ _ inv.1 (rw (c.max_by-best.ensures, c.offered.ensures, one.ensures)),
      some_or _ _ inv.2 (c.is_some-any.ensures ∙ ap is_some one.ensures),
    )

pub returns : goal.returns
unfolding best_of last_largest entering any_wrong
returns c =
    let inv = c.loop-i.invariant in
    (search kit, rw (le_antisymm inv.0 c.loop-i-test.false) at inv.2)

pub loop-i-init : goal.loop-i-init
unfolding best_of some
loop-i-init c = search kit
