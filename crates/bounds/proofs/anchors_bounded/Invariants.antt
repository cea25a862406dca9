use Rattle.folds.specs.Kit.{◌≡◌, true, all}
use mathlib.Core.Bool.{Bool}
use mathlib.Core.List.{List}
use lib.IntN.{ℤ}
use Rattle.block.specs.Block.{Anchor, anchor}
use Rattle.block.specs.Keeps.{anchor_miss, miss_bounded}
use Rattle.format.specs.Structs.{block_of}
use Rattle.bounds.proofs.anchors_bounded.Given as goal

abbrev pub kept : List ℤ → Anchor → Bool
kept x e = miss_bounded (anchor_miss e x) e.list

abbrev pub invariant-loop-a : goal.invariant-loop-a
invariant-loop-a l = true ≡ all l.a-index (λ k. kept l.times (anchor (block_of l.fn.b) k))
