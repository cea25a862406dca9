-- What a call of the check promises: the number and the gap at exit are the definition's, and where it gives a gap, no plan that keeps the block
-- costs less than cost − gap, in whole samples or over any denominator.
use Rattle.std.specs.Prelude.{◌≡◌, List, ℕ, ℤ, pos, ◌+ℤ◌, ◌-ℤ◌, ◌*ℤ◌, ◌≤ℤ◌, Result, Ok, Err}
use Rattle.block.specs.Block.{Block}
use Rattle.block.specs.Plan.{cost}
use Rattle.block.specs.Keeps.{Keeps}
use Rattle.block.specs.Finer.{cost_over, KeepsOver}
use Rattle.format.specs.Read.{Outcome, read, number_of}
use Rattle.format.specs.declared.Refusal.{Refusal}
use Rattle.plan_check.specs.Check.{check, result_of, gap_after}

-- of the block file s, the plan x and the gap z
pub record CostBound (s : List ℕ) (x : List ℤ) (z : ℤ) : Type 0 where
  pub block : Block
  pub is_read : read s ≡ Outcome.block block
  pub whole : (y : List ℤ) → Keeps block y → (cost block x -ℤ z) ≤ℤ cost block y
  pub fractional : (d : ℕ) (y : List ℤ) → KeepsOver d block y
      → (pos d *ℤ (pos d *ℤ cost block x)) ≤ℤ (cost_over d block y +ℤ pos d *ℤ (pos d *ℤ z))

-- of the block file s, the plan x, the prices p and the caller's gap, old at entry: the result r, and what the gap is at exit
pub record Answered (s : List ℕ) (x p : List ℤ) (old : ℤ) (r : ℕ) (exit : ℤ) : Type 0 where
  pub result : r ≡ result_of (check s x p)
  pub gap : exit ≡ gap_after (check s x p) old
  pub bound : r ≡ 0 → CostBound s x exit

-- the same of a result: its number, and the caller's gap, which a refusal leaves
abbrev pub Checks : (s : List ℕ) (x p : List ℤ) → Result ℤ Refusal → Type 0
Checks s x p (Ok z) = (old : ℤ) → Answered s x p old 0 z
Checks s x p (Err r) = (old : ℤ) → Answered s x p old (number_of r) old
