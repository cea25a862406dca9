use borrow.Author.Rules.{rules}
use Rattle.word_numbers.specs.Words.{keys}
use Rattle.word_numbers.proofs.keys.Goals as goal

pub returns : goal.returns
unfolding keys
returns c = c.each_word.ensures (λ w. w.key) (λ w n r. search rules)
