-- The words' numbers and the cap are whole numbers of the block, exactly, and at most 2 ^ 40 in size.
use Rattle.std.specs.Prelude.{◌≡◌, ℕ, ◌<◌, ◌≤◌, false, T, length, pos, nat_le, refl}
use Rattle.std.proofs.Common.{lit≤}
use Rattle.ints.specs.Bound.{loose, pos_b}
use Rattle.arith.specs.Float.{at}
use Rattle.reductions.specs.Reductions.{any_nan}
use Rattle.reductions.specs.Laws.{numbers-all}
use Rattle.block.specs.Block.{Block, Word, word}
use Rattle.block.specs.Ranges.{Ranged}
use Rattle.block_floats.specs.Exact.{Whole, whole-number, listed}
use Rattle.word_numbers.specs.Words.{each_word, keys, slopes, lowers, uppers, starts, cap}

whole-word : (number : Word → ℕ) (b : Block) (i : ℕ) {a : ℕ} → i < length b.words → number (word b i) ≤ a → T (nat_le a 1099511627776) →
    Whole (at (each_word number b) i) (pos (number (word b i)))
unfolding each_word
whole-word number b i l h t = listed (length b.words) (λ i. pos (number (word b i))) i l (pos_b h) t

module _ {b : Block} (R : Ranged b) where
  abbrev n : ℕ
  n = length b.words

  pub whole-keys : (i : ℕ) → i < n → Whole (at (keys b) i) (pos (word b i).key)
  unfolding keys
  whole-keys i l = whole-word (λ w. w.key) b i l (R.each_word i l).key tt

  pub whole-slopes : (i : ℕ) → i < n → Whole (at (slopes b) i) (pos (word b i).slope)
  unfolding slopes
  whole-slopes i l = whole-word (λ w. w.slope) b i l (R.each_word i l).slope tt

  pub whole-lowers : (i : ℕ) → i < n → Whole (at (lowers b) i) (pos (word b i).lower)
  unfolding lowers
  whole-lowers i l = whole-word (λ w. w.lower) b i l (R.each_word i l).lower tt

  pub whole-uppers : (i : ℕ) → i < n → Whole (at (uppers b) i) (pos (word b i).upper)
  unfolding uppers
  whole-uppers i l = whole-word (λ w. w.upper) b i l (R.each_word i l).upper tt

  pub whole-starts : (i : ℕ) → i < n → Whole (at (starts b) i) (pos (word b i).start)
  unfolding starts
  whole-starts i l = whole-word (λ w. w.start) b i l (R.each_word i l).start tt

  pub whole-cap : Whole (cap b) (pos b.cap)
  unfolding cap
  whole-cap = record { is = refl; small = loose (lit≤ tt) (pos_b R.cap) }

-- ---- so no bound is a NaN
module _ {b : Block} (R : Ranged b) where
  pub lowers-numbers : any_nan (length b.words) (lowers b) ≡ false
  lowers-numbers = numbers-all _ _ (λ i l. whole-number (whole-lowers R i l))

  pub uppers-numbers : any_nan (length b.words) (uppers b) ≡ false
  uppers-numbers = numbers-all _ _ (λ i l. whole-number (whole-uppers R i l))
