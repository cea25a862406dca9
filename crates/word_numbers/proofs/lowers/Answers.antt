use borrow.Author.Rules.{rules}
use Rattle.word_numbers.specs.Words.{lowers}
use Rattle.word_numbers.proofs.lowers.Goals as goal

pub returns : goal.returns
unfolding lowers
returns c = c.each_word.ensures (λ w. w.lower) (λ w n r. search rules)
