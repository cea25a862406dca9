use Rattle.folds.specs.Kit.{◌≡◌, true, all}
use mathlib.Core.Bool.{Bool}
use mathlib.Core.List.{List}
use lib.IntN.{ℤ}
use Rattle.block.specs.Block.{Span, span}
use Rattle.block.specs.Keeps.{span_miss, miss_bounded}
use Rattle.format.specs.Structs.{block_of}
use Rattle.bounds.proofs.spans_bounded.Given as goal

abbrev pub kept : List ℤ → Span → Bool
kept x e = miss_bounded (span_miss e x) e.list

abbrev pub invariant-loop-s : goal.invariant-loop-s
invariant-loop-s l = true ≡ all l.s-index (λ k. kept l.times (span (block_of l.fn.b) k))
