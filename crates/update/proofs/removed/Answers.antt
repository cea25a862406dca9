use Rattle.std.proofs.Common.{◌∙◌, sym, arith, rules}
use Rattle.folds.specs.Tab.{length-tab, over-all}
use Rattle.vector.specs.Laws.{over_by}
use Rattle.update.specs.Update.{removed}
use Rattle.update.proofs.removed.Goals as goal

pub returns : goal.returns
unfolding removed
returns c =
    let w = c.write_each.ensures in
    over_by c.args.n _ _ _ (omega arith) w.length (λ k h. let e = w.written k h in search rules) w.kept
    ∙ over-all _ _ (length-tab _ _ ∙ sym c.requires.3)
