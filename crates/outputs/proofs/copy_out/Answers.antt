use Rattle.folds.specs.Kit.{◌∙◌, arith}
use lib.Seq.{length-take-le}
use Rattle.vector.specs.Laws.{copy-over}
use Rattle.outputs.proofs.copy_out.Goals as goal

pub returns : goal.returns
returns c =
    let a = c.args in (
      c.copy.ensures ∙ copy-over a.n _ _ (length-take-le _ _ (omega arith)) c.requires.2,
      c.copy-2.ensures ∙ copy-over a.w _ _ (length-take-le _ _ (omega arith)) c.requires.3,
    )
