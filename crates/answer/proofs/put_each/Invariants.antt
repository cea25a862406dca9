use Rattle.folds.specs.Kit.{◌≡◌, length}
use lib.ListN.{take}
use Rattle.answer.specs.File.{bytes, each}
use Rattle.answer.specs.Pasted.{pasted}
use Rattle.answer.proofs.put_each.Given as goal

abbrev pub invariant-loop-i : goal.invariant-loop-i
invariant-loop-i g l =
    (length l.out ≡ length l.initial.out)
    × (l.out ≡ pasted l.at (each (λ x. bytes l.k (g.T.Coded.code x)) (take l.i l.numbers)) l.initial.out)
