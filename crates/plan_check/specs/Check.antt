-- The check of anyone's plan and prices. Document 01, "Refusal table": "The check of anyone's plan and prices: block, 9, times (0 to 262,144) and
-- prices 5, 15." Prices are "anchors, spans, cap".
use Rattle.std.specs.Prelude.{Bool, List, ℕ, ◌+◌, eqb, length, ℤ, pos, neg_ℤ}
use Rattle.std.specs.Int.Signed.{le_z}
use Rattle.folds.specs.Fold.{all, both, pick}
use Rattle.block.specs.Block.{Block}
use Rattle.block.specs.Plan.{time}
use Rattle.block.specs.Gap.{price, gap}
use Rattle.block.specs.Ranges.{max_time, max_price}
use Rattle.format.specs.Read.{Outcome, read}
use Rattle.gap.specs.Prices.{price_count, prices_from}

pub data Checked : Type 0 where
  gap_is : ℤ → Checked
  refused : ℕ → Checked

-- ---- ranges
unfoldable pub between : (lower upper z : ℤ) → Bool
between lower upper z = both (le_z lower z) (le_z z upper)

-- "times (0 to 262,144)"
unfoldable pub times_in : List ℤ → Bool
times_in x = all (length x) (λ i. between (pos 0) (pos max_time) (time x i))

-- "held within ±4,294,967,296 (cap from 0)"
unfoldable pub prices_in : (count : ℕ) (prices : List ℤ) → Bool
prices_in n p = all n (λ k. between (neg_ℤ (pos max_price)) (pos max_price) (price p k))

unfoldable pub cap_in : ℤ → Bool
cap_in z = between (pos 0) (pos max_price) z

-- "gap outside signed 64 bits"
unfoldable pub fits64 : ℤ → Bool
fits64 z = between (neg_ℤ (pos 9223372036854775808)) (pos 9223372036854775807) z

-- ---- refusals by their numbers, 0 where there is none, for a block of n words, and m anchors and spans
-- 9, "as many times or prices as the block hasn't"
unfoldable pub count_refusal : (n m : ℕ) (times prices : List ℤ) → ℕ
count_refusal n m x p = pick (both (eqb (length x) n) (eqb (length p) (m + 1))) 0 9

unfoldable pub time_refusal : List ℤ → ℕ
time_refusal x = pick (times_in x) 0 5

unfoldable pub price_refusal : (m : ℕ) (prices : List ℤ) → ℕ
price_refusal m p = pick (both (prices_in m p) (cap_in (price p m))) 0 5

-- the earlier of two, where it refuses
unfoldable pub earlier : (first second : ℕ) → ℕ
earlier a b = pick (eqb a 0) b a

-- "9, times (0 to 262,144) and prices 5"
unfoldable pub refusal_for : (n m : ℕ) (times prices : List ℤ) → ℕ
refusal_for n m x p = earlier (earlier (count_refusal n m x p) (time_refusal x)) (price_refusal m p)

abbrev pub refusal_of : Block → (times prices : List ℤ) → ℕ
refusal_of b x p = refusal_for (length b.words) (price_count b) x p

-- then 15
unfoldable pub check_block : Block → (times prices : List ℤ) → Checked
check_block b x p =
    pick (eqb (refusal_of b x p) 0)
    (pick (fits64 (gap b x (prices_from b p))) (gap_is (gap b x (prices_from b p))) (refused 15))
    (refused (refusal_of b x p))

-- the block's own refusals first
unfoldable pub check_read : Outcome → (times prices : List ℤ) → Checked
check_read (Outcome.refused n) x p = refused n
check_read (Outcome.block b) x p = check_block b x p

unfoldable pub check : (block : List ℕ) (times prices : List ℤ) → Checked
check s x p = check_read (read s) x p

-- ---- "A refusal is its number only; lent slices are untouched."
unfoldable pub result_of : Checked → ℕ
result_of (gap_is z) = 0
result_of (refused n) = n

unfoldable pub gap_after : Checked → (old : ℤ) → ℤ
gap_after (gap_is z) old = z
gap_after (refused n) old = old
