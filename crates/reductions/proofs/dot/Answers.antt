use Rattle.std.specs.Prelude.{refl, length, take}
use Rattle.std.specs.Float.Ieee.{nan}
use Rattle.std.proofs.Common.{rules, arith, ◌∙◌, length-append, length-take-le}
use Rattle.std.proofs.lemmas.Slice.Zip.{zip_turn, zip_end}
use Rattle.folds.specs.Fold.{fold-none, fold_call, fold_end}
use Rattle.reductions.specs.Reductions.{dot}
use Rattle.reductions.specs.Slices.{slice-turn}
use Rattle.reductions.proofs.dot.Goals as goal

pub loop-x-init : goal.loop-x-init
unfolding dot
loop-x-init c = fold-none _ _

pub loop-x-preserved : goal.loop-x-preserved
unfolding dot
loop-x-preserved c =
    let x = c.args in
    let t = zip_turn (take x.n x.a.now) (take x.n x.b.now) c.loop-x.yielded _ _ c.next.new.self _ (search rules) (search rules)
    c.loop-x.yielded_by _ c.in-Some.is c.next.ensures.steps in
    let a = slice-turn nan x.n (length c.loop-x.yielded) x.a.now (omega arith) t.0 in
    let b = slice-turn nan x.n (length c.loop-x.yielded) x.b.now (omega arith) t.1 in
    rw (length-append, t.2 nan ∙ a.1, t.3 nan ∙ b.1) (fold_call _ _ _ c.loop-x.invariant refl)

pub returns : goal.returns
unfolding dot
returns c =
    let x = c.args in
    let t = zip_end (take x.n x.a.now) (take x.n x.b.now) c.loop-x.yielded _ _ c.next.new.self _ (search rules) (search rules)
    c.loop-x.yielded_by c.in-None.is c.next.ensures.steps in
    let a = length-take-le x.n x.a.now (omega arith) in
    let b = length-take-le x.n x.b.now (omega arith) in
    fold_end _ _ _ _ (omega arith) (omega arith) c.loop-x.invariant
