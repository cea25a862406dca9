-- What the engine gets of a block: its anchors and spans. Document 01, "The block file": each anchor is a column of E with its entry of b, each span
-- a row of the engine's with its ends, stored as a column. Matrices are stored column after column.
use Rattle.std.specs.Prelude.{List, ℕ, length, ℤ, Float}
use Rattle.folds.specs.Fold.{tab, tab_m}
use Rattle.nearest.specs.Value.{fromℤ}
use Rattle.block.specs.Block.{Block, Item, Span, anchor, span}
use Rattle.block.specs.Gap.{coef_of}

-- ---- "an anchor where its list's sum is its value, a span where the sum is from lower to upper": the coefficients of a list as a column of n
unfoldable pub column : (n : ℕ) (list : List Item) → List Float
column n l = tab n (λ i. fromℤ (coef_of i l))

-- one for each of m lists
unfoldable pub columns : (n m : ℕ) (list : ℕ → List Item) → List Float
columns n m list = tab_m n m (λ i k. fromℤ (coef_of i (list k)))

unfoldable pub anchor_columns : Block → List Float
anchor_columns b = columns (length b.words) (length b.anchors) (λ k. (anchor b k).list)

unfoldable pub anchor_values : Block → List Float
anchor_values b = tab (length b.anchors) (λ k. fromℤ (anchor b k).value)

unfoldable pub span_columns : Block → List Float
span_columns b = columns (length b.words) (length b.spans) (λ k. (span b k).list)

unfoldable pub each_span : (number : Span → ℤ) → Block → List Float
each_span number b = tab (length b.spans) (λ k. fromℤ (number (span b k)))

unfoldable pub span_lowers : Block → List Float
span_lowers b = each_span (λ s. s.lower) b

unfoldable pub span_uppers : Block → List Float
span_uppers b = each_span (λ s. s.upper) b
