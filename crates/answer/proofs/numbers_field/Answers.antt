use Rattle.folds.specs.Kit.{sym, ◌*◌, length, arith}
use Rattle.answer.specs.File.{bytes}
use Rattle.answer.specs.Pasted.{pasted-field, length-bytes, length-each}
use Rattle.answer.proofs.numbers_field.Goals as goal

pub returns : goal.returns
returns g c =
    let n = length-each (λ x. bytes c.args.k (g.T.Coded.code x)) c.args.k (λ x. length-bytes _ _) c.args.numbers.now in
    pasted-field _ (c.args.k * length c.args.numbers.now) c.args.tag _ _ (sym n) (omega (arith, c.requires)) c.put_header.ensures c.put_each.ensures
