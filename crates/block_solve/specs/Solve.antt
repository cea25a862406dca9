-- A block, handed to the engine. Document 01, "The block file": "To the engine, Q adds weight × coefficient products, c adds weight × target ×
-- coefficient; key and slope are the kink." The parts are those of block_cost, word_numbers and block_rows.
use Rattle.std.specs.Prelude.{◌≡◌, List, ◌+◌, length, take, Float}
use Rattle.block.specs.Block.{Block}
use Rattle.format.specs.declared.Block as Held
use Rattle.format.specs.Structs.{block_of}
use Rattle.block_cost.specs.Cost.{hessian, linear}
use Rattle.word_numbers.specs.Words.{lowers, uppers, keys, slopes, starts, cap}
use Rattle.block_rows.specs.Rows.{anchor_columns, anchor_values, span_columns, span_lowers, span_uppers}
use Rattle.quadratic.specs.Quadratic.{Quadratic, quadratic}
use Rattle.minimum.specs.Capped.{optimal}
use Rattle.outputs.specs.Capped.{CappedAnswer, engine, number}
use Rattle.cap.specs.Capped.{solve_turnover_capped}
use Rattle.block_solve.specs.declared.Solved.{Solved}

unfoldable pub quadratic_of : Block → Quadratic
quadratic_of b =
    quadratic (length b.words) (length b.anchors) (length b.spans) (hessian b) (linear b) (anchor_columns b) (anchor_values b) (lowers b)
    (uppers b) (span_columns b) (span_lowers b) (span_uppers b) (keys b) (slopes b) (starts b)

-- a weight for each word, a multiplier for each anchor and span
unfoldable pub solve_block : Block → CappedAnswer
solve_block b = solve_turnover_capped (quadratic_of b) (cap b) (length b.words) (length b.anchors + length b.spans)

-- ---- what is gathered of it: the matrices, and the lists of the words
pub record Matrices (b : Block) (q e a : List Float) : Type 0 where
  pub q_is : q ≡ hessian b
  pub e_is : e ≡ anchor_columns b
  pub a_is : a ≡ span_columns b

pub record Words (b : Block) (c lower upper at slope start : List Float) : Type 0 where
  pub c_is : c ≡ linear b
  pub lower_is : lower ≡ lowers b
  pub upper_is : upper ≡ uppers b
  pub at_is : at ≡ keys b
  pub slopes_are : slope ≡ slopes b
  pub start_is : start ≡ starts b

-- ---- what the call gives: the engine's number, and with 0 its answer
abbrev pub weights : Held.Block → Solved → List Float
weights b s = take b.words s.x

abbrev pub multipliers_of : Held.Block → Solved → List Float
multipliers_of b s = take (b.anchors + b.spans) s.multipliers

pub record Solves (b : Held.Block) (s : Solved) : Type 0 where
  pub numbered : s.number ≡ number (solve_block (block_of b))
  pub optimal_is : s.number ≡ 0 → solve_block (block_of b) ≡ engine (optimal (weights b s) (multipliers_of b s) s.passes s.raise)
