use borrow.Author.Rules.{rules}
use Rattle.word_numbers.specs.Words.{uppers}
use Rattle.word_numbers.proofs.uppers.Goals as goal

pub returns : goal.returns
unfolding uppers
returns c = c.each_word.ensures (λ w. w.upper) (λ w n r. search rules)
