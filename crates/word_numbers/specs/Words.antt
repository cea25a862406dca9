-- What the engine gets of a block: the numbers of its words, and its cap. Document 01, "The block file": half the cost is
-- ½ xᵀQx − cᵀx + Σ slope × |x − key| and a constant.
use Rattle.std.specs.Prelude.{ℕ, List, length, Float}
use Rattle.folds.specs.Fold.{tab}
use Rattle.arith.specs.Float.{fromℕ}
use Rattle.block.specs.Block.{Block, Word, word}

-- ---- the numbers of the words, one list for each: "key and slope are the kink", the window is the variable's, the engine begins at start
unfoldable pub each_word : (number : Word → ℕ) → Block → List Float
each_word number b = tab (length b.words) (λ i. fromℕ (number (word b i)))

unfoldable pub keys : Block → List Float
keys b = each_word (λ w. w.key) b

unfoldable pub slopes : Block → List Float
slopes b = each_word (λ w. w.slope) b

unfoldable pub lowers : Block → List Float
lowers b = each_word (λ w. w.lower) b

unfoldable pub uppers : Block → List Float
uppers b = each_word (λ w. w.upper) b

unfoldable pub starts : Block → List Float
starts b = each_word (λ w. w.start) b

-- ---- "all moves added up are at most the cap"
unfoldable pub cap : Block → Float
cap b = fromℕ b.cap
