-- How long the lists of Rows.antt are.
use Rattle.std.specs.Prelude.{◌≡◌, ◌*◌, ℤ, length}
use Rattle.folds.specs.Tab.{length-tab}
use Rattle.block.specs.Block.{Block, Span}
use Rattle.block_rows.specs.Rows.{anchor_columns, anchor_values, span_columns, each_span, span_lowers, span_uppers}
use Rattle.block_rows.specs.Entries.{length-columns}

length-each_span : (number : Span → ℤ) (b : Block) → length (each_span number b) ≡ length b.spans
unfolding each_span
length-each_span number b = length-tab _ _

module _ (b : Block) where
  pub length-anchor_columns : length (anchor_columns b) ≡ length b.words * length b.anchors
  unfolding anchor_columns
  length-anchor_columns = length-columns _ _ _

  pub length-anchor_values : length (anchor_values b) ≡ length b.anchors
  unfolding anchor_values
  length-anchor_values = length-tab _ _

  pub length-span_columns : length (span_columns b) ≡ length b.words * length b.spans
  unfolding span_columns
  length-span_columns = length-columns _ _ _

  pub length-span_lowers : length (span_lowers b) ≡ length b.spans
  unfolding span_lowers
  length-span_lowers = length-each_span _ b

  pub length-span_uppers : length (span_uppers b) ≡ length b.spans
  unfolding span_uppers
  length-span_uppers = length-each_span _ b
