-- What a call of the service promises: the number, the slice and the count at exit are the definition's; and where it answers, what a reader of the
-- bytes finds there keeps document 01's bounds on a written plan, and no plan that keeps the block costs less than the cost less the gap.
use Rattle.std.specs.Prelude.{◌≡◌, List, ℕ, ◌+◌, ◌*◌, ◌≤◌, length, take, Float, Result, Ok, Err}
use Rattle.block.specs.Block.{Block}
use Rattle.block.specs.Keeps.{Bounded}
use Rattle.block.specs.Gap.{gap}
use Rattle.format.specs.Read as Read
use Rattle.format.specs.declared.Refusal.{Refusal}
use Rattle.gap.specs.Prices.{prices_from}
use Rattle.gap.specs.Input.{PlanAndPrices}
use Rattle.answer.specs.File.{Answer}
use Rattle.answer.specs.Back as Back
use Rattle.plan_check.specs.Promise.{CostBound}
use Rattle.minimum.specs.Capped.{optimal}
use Rattle.outputs.specs.Capped.{engine}
use Rattle.block_solve.specs.Solve.{solve_block}
use Rattle.service.specs.Place.{place, number_of, slice_after, written_after}

-- what holds of an answer to the block b
pub record Answers (b : Block) (a : Answer) : Type 0 where
  -- as many times and prices as the block has, in their ranges
  pub ranged : PlanAndPrices b a.times a.prices
  -- "The bounds on a written plan": every window, the moves, each anchor and each span
  pub bounded : Bounded b a.times
  -- "The written gap is this number for the written times and prices"
  pub gap_is : a.gap ≡ gap b a.times (prices_from b a.prices)
  -- "passes of the accepted solve": the definition's, "at most 100 + 20 × (variables and slacks)"
  pub x : List Float
  pub multipliers : List Float
  pub raise : Float
  pub solved : solve_block b ≡ engine (optimal x multipliers a.passes raise)
  pub passes_few : a.passes ≤ 100 + 20 * 48

-- of the block file s: what a reader of the first `written` bytes of the slice finds there, and the bound on the cost
pub record Plan (s slice : List ℕ) (written : ℕ) : Type 0 where
  pub answer : Answer
  pub is_written : Back.read_answer (take written slice) ≡ Back.answer answer
  pub bound : CostBound s answer.times answer.gap
  pub answers : Answers bound.block answer

-- of the block file s, the caller's slice o and its count old at entry: the result r, and the slice and the count at exit
pub record Answered (s o : List ℕ) (old : ℕ) (r : ℕ) (slice : List ℕ) (written : ℕ) : Type 0 where
  pub result : r ≡ number_of (place s (length o))
  pub bytes : slice ≡ slice_after (place s (length o)) o
  pub count : written ≡ written_after (place s (length o)) old
  pub plan : r ≡ 0 → Plan s slice written

-- the same of a result: its number, and the caller's count, which a refusal leaves
abbrev pub Serves : (s o : List ℕ) → Result ℕ Refusal → (slice : List ℕ) → Type 0
Serves s o (Ok n) slice = (old : ℕ) → Answered s o old 0 slice n
Serves s o (Err r) slice = (old : ℕ) → Answered s o old (Read.number_of r) slice old
