use Rattle.folds.specs.Kit.{sym, arith}
use Rattle.answer.specs.Pasted.{pasted-field, length-bytes}
use Rattle.answer.proofs.number_field.Goals as goal

pub returns : goal.returns
returns c =
    let n = length-bytes c.args.k c.args.n in
    pasted-field _ c.args.k c.args.tag _ _ (sym n) (omega (arith, c.requires)) c.put_header.ensures c.put.ensures
