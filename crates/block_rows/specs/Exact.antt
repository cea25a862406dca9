-- The rows' coefficients, values and ends are whole numbers of the block, exactly, and at most 2 ^ 40 in size.
use Rattle.std.specs.Prelude.{◌≡◌, false, List, ℕ, ◌+◌, ◌*◌, ◌<◌, ℤ, length}
use Rattle.std.proofs.Common.{lit≤}
use Rattle.std.specs.Float.{nan}
use Rattle.folds.specs.Tab.{get_d_tab_m}
use Rattle.ints.specs.Bound.{◌≼◌, loose}
use Rattle.arith.specs.Float.{at}
use Rattle.reductions.specs.Reductions.{any_nan}
use Rattle.reductions.specs.Laws.{numbers-all}
use Rattle.block.specs.Block.{Block, Item, Span, anchor, span}
use Rattle.block.specs.Gap.{coef_of}
use Rattle.block.specs.Ranges.{Ranged, Short}
use Rattle.block.specs.Fits.{coef_of-b}
use Rattle.block_floats.specs.Exact.{Whole, whole-number, listed}
use Rattle.block_rows.specs.Rows.{columns, anchor_columns, anchor_values, span_columns, each_span, span_lowers, span_uppers}

whole-span : (number : Span → ℤ) (b : Block) (k : ℕ) → k < length b.spans → number (span b k) ≼ 8388608 →
    Whole (at (each_span number b) k) (number (span b k))
unfolding each_span
whole-span number b k l h = listed (length b.spans) (λ k. number (span b k)) k l h tt

whole-column : (n m : ℕ) (list : ℕ → List Item) (i k : ℕ) → i < n → k < m → Short (list k)
    → Whole (at (columns n m list) (i + k * n)) (coef_of i (list k))
unfolding columns
whole-column n m list i k l h s = record { is = get_d_tab_m nan n m i k _ l h; small = loose (lit≤ tt) (coef_of-b s i) }

module _ {b : Block} (R : Ranged b) where
  abbrev n : ℕ
  n = length b.words

  pub whole-anchor_columns : (i k : ℕ) → i < n → k < length b.anchors → Whole (at (anchor_columns b) (i + k * n)) (coef_of i (anchor b k).list)
  unfolding anchor_columns
  whole-anchor_columns i k l h = whole-column n (length b.anchors) (λ k. (anchor b k).list) i k l h (R.each_anchor k h).list.short

  pub whole-anchor_values : (k : ℕ) → k < length b.anchors → Whole (at (anchor_values b) k) (anchor b k).value
  unfolding anchor_values
  whole-anchor_values k l = listed (length b.anchors) (λ k. (anchor b k).value) k l (record { size = (R.each_anchor k l).value }) tt

  pub whole-span_columns : (i k : ℕ) → i < n → k < length b.spans → Whole (at (span_columns b) (i + k * n)) (coef_of i (span b k).list)
  unfolding span_columns
  whole-span_columns i k l h = whole-column n (length b.spans) (λ k. (span b k).list) i k l h (R.each_span k h).list.short

  pub whole-span_lowers : (k : ℕ) → k < length b.spans → Whole (at (span_lowers b) k) (span b k).lower
  unfolding span_lowers
  whole-span_lowers k l = whole-span (λ s. s.lower) b k l (record { size = (R.each_span k l).lower })

  pub whole-span_uppers : (k : ℕ) → k < length b.spans → Whole (at (span_uppers b) k) (span b k).upper
  unfolding span_uppers
  whole-span_uppers k l = whole-span (λ s. s.upper) b k l (record { size = (R.each_span k l).upper })

-- ---- so no bound is a NaN
module _ {b : Block} (R : Ranged b) where
  pub span_lowers-numbers : any_nan (length b.spans) (span_lowers b) ≡ false
  span_lowers-numbers = numbers-all _ _ (λ i l. whole-number (whole-span_lowers R i l))

  pub span_uppers-numbers : any_nan (length b.spans) (span_uppers b) ≡ false
  span_uppers-numbers = numbers-all _ _ (λ i l. whole-number (whole-span_uppers R i l))
