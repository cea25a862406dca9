-- `nearer` is the nearest whole number, halves to even.
use native.Mathlib.Nat.{le_antisymm}
use borrow.Author.Rules.{rules}
use Rattle.nearest.proofs.Sizes.{below-half, above-half, at-half}
use Rattle.nearest.proofs.nearer.Goals as goal

pub returns-then-r-half : goal.returns-then-r-half
returns-then-r-half c = below-half _ _ _ c.if-r-half.true

pub returns-then-half-r : goal.returns-then-half-r
returns-then-half-r c = above-half _ _ _ c.requires.1 c.if-half-r.true

pub returns : goal.returns
returns c = at-half _ _ _ c.requires.1 (le_antisymm c.if-half-r.false c.if-r-half.false)
