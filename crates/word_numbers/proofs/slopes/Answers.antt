use borrow.Author.Rules.{rules}
use Rattle.word_numbers.specs.Words.{slopes}
use Rattle.word_numbers.proofs.slopes.Goals as goal

pub returns : goal.returns
unfolding slopes
returns c = c.each_word.ensures (λ w. w.slope) (λ w n r. search rules)
