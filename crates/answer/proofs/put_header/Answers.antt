use Rattle.folds.specs.Kit.{arith}
use Rattle.answer.specs.File.{bytes}
use Rattle.answer.specs.Pasted.{pasted-two, length-bytes}
use Rattle.answer.proofs.put_header.Goals as goal

pub returns : goal.returns
returns c =
    pasted-two c.args.at _ (bytes 1 c.args.tag) (bytes 2 c.args.len) c.args.out.now
    (omega (arith, length-bytes 1 c.args.tag)) (omega (arith, c.requires, length-bytes 2 c.args.len))
    c.put.ensures c.put-2.ensures
