use Rattle.folds.specs.Kit.{◌≡◌}
use lib.Seq.{paste}
use Rattle.answer.specs.File.{bytes}
use Rattle.answer.specs.Pasted.{shifted}
use Rattle.answer.proofs.put.Given as goal

abbrev pub invariant-loop-b : goal.invariant-loop-b
invariant-loop-b l = (l.m ≡ shifted l.b-index l.n) × (l.b-items ≡ paste l.initial.b-items 0 (bytes l.k l.n) l.b-index)
