use borrow.Author.Rules.{rules}
use Rattle.word_numbers.specs.Words.{starts}
use Rattle.word_numbers.proofs.starts.Goals as goal

pub returns : goal.returns
unfolding starts
returns c = c.each_word.ensures (λ w. w.start) (λ w n r. search rules)
