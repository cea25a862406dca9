-- How long the lists of Words.antt are.
use Rattle.std.specs.Prelude.{◌≡◌, ℕ, length}
use Rattle.folds.specs.Tab.{length-tab}
use Rattle.block.specs.Block.{Block, Word}
use Rattle.word_numbers.specs.Words.{each_word, keys, slopes, lowers, uppers, starts}

length-each_word : (number : Word → ℕ) (b : Block) → length (each_word number b) ≡ length b.words
unfolding each_word
length-each_word number b = length-tab _ _

module _ (b : Block) where
  pub length-keys : length (keys b) ≡ length b.words
  unfolding keys
  length-keys = length-each_word _ b

  pub length-slopes : length (slopes b) ≡ length b.words
  unfolding slopes
  length-slopes = length-each_word _ b

  pub length-lowers : length (lowers b) ≡ length b.words
  unfolding lowers
  length-lowers = length-each_word _ b

  pub length-uppers : length (uppers b) ≡ length b.words
  unfolding uppers
  length-uppers = length-each_word _ b

  pub length-starts : length (starts b) ≡ length b.words
  unfolding starts
  length-starts = length-each_word _ b
