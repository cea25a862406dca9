use Rattle.folds.specs.Kit.{◌≡◌, ℕ, length, set, fold}
use Rattle.arith.specs.Float.{fromℕ}
use Rattle.std.specs.Fn.{FnReturnsAt}
use Rattle.block.specs.Block.{Word}
use Rattle.format.specs.Structs.{word_of, word_at}
use Rattle.word_numbers.specs.Numbers.{Gives}
use Rattle.word_numbers.proofs.each_word.Given as goal

abbrev pub invariant-loop-i : goal.invariant-loop-i
invariant-loop-i g l = (length l.y ≡ length l.initial.y)
    × ((f : Word → ℕ) → Gives (FnReturnsAt g.F.Fn l.number) f → l.y ≡ fold l.i (λ i l'. set l' i (fromℕ (f (word_of (word_at l.fn.b i))))) l.initial.y)
