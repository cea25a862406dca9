use Rattle.std.specs.Float.Ieee.{nan}
use Rattle.std.proofs.Common.{rules, arith, length-append}
use Rattle.std.proofs.lemmas.Slice.Zip.{zip_turn, zip_end}
use Rattle.folds.specs.Fold.{fold-none, fold_call, fold_end}
use Rattle.slack_rows.specs.SlackRows.{others}
use Rattle.slack_rows.proofs.others.Goals as goal

pub loop-i-init : goal.loop-i-init
loop-i-init c = fold-none _ _

pub get-requires : goal.get-requires
get-requires c =
    let x = c.args in
    let p = c.requires in
    let t = zip_turn x.solved.now x.step.now c.loop-i.yielded _ _ c.next.new.self _ (search rules) (search rules)
    c.loop-i.yielded_by _ c.in-Some.is c.next.ensures.steps in
    (p.0.entries, rw (t.2 0) (p.0.below _ t.0), p.2)

pub loop-i-preserved : goal.loop-i-preserved
loop-i-preserved c =
    let x = c.args in
    let t = zip_turn x.solved.now x.step.now c.loop-i.yielded _ _ c.next.new.self _ (search rules) (search rules)
    c.loop-i.yielded_by _ c.in-Some.is c.next.ensures.steps in
    rw length-append (fold_call _ _ _ c.loop-i.invariant (rw (c.get.ensures, t.2 0, t.3 nan)))

pub returns : goal.returns
unfolding others
returns c =
    let x = c.args in
    let t = zip_end x.solved.now x.step.now c.loop-i.yielded _ _ c.next.new.self _ (search rules) (search rules)
    c.loop-i.yielded_by c.in-None.is c.next.ensures.steps in
    fold_end _ _ _ _ (omega arith) (omega arith) c.loop-i.invariant
