-- What the service answers of an engine's weights and multipliers. Document 01, "Refusal table": "then 14 exactly where an engine weight isn't finite,
-- or the written times, tested in whole numbers, break one of the third demand's bounds on windows, moves, anchors and spans; then 15".
use Rattle.std.specs.Prelude.{List, ℕ, length, ℤ, Float}
use Rattle.folds.specs.Fold.{both, pick}
use Rattle.reductions.specs.Reductions.{all_finite}
use Rattle.block.specs.Block.{Block}
use Rattle.block.specs.Keeps.{bounded}
use Rattle.block.specs.Gap.{gap}
use Rattle.gap.specs.Prices.{prices_from}
use Rattle.answer.specs.File.{Answer, answer_of}
use Rattle.plan_check.specs.Check.{fits64}
use Rattle.rounding.specs.Lists.{times_of, prices_of}

pub data Placed : Type 0 where
  answered : Answer → Placed
  refused : ℕ → Placed

-- the answer file of a plan and prices: "The written gap is this number for the written times and prices"
abbrev pub answer_for : Block → (times prices : List ℤ) → (passes : ℕ) → Answer
answer_for b times prices passes = answer_of times prices (gap b times (prices_from b prices)) passes

-- 14, then 15: of a plan and prices, with the engine's weights x and its passes
unfoldable pub judged : Block → (x : List Float) → (times prices : List ℤ) → (passes : ℕ) → Placed
judged b x times prices passes =
    pick (both (all_finite (length x) x) (bounded b times))
    (pick (fits64 (gap b times (prices_from b prices))) (answered (answer_for b times prices passes)) (refused 15))
    (refused 14)

-- of the engine's weights, multipliers, passes and raise
unfoldable pub written : Block → (x multipliers : List Float) → (passes : ℕ) → (raise : Float) → Placed
written b x multipliers passes raise = judged b x (times_of x) (prices_of multipliers raise) passes
