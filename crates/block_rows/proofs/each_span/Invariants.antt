use Rattle.folds.specs.Kit.{◌≡◌, length, set, fold}
use Rattle.std.specs.Prelude.{ℤ}
use Rattle.std.specs.Fn.{FnReturnsAt}
use Rattle.nearest.specs.Value.{fromℤ}
use Rattle.block.specs.Block.{Span}
use Rattle.format.specs.Structs.{span_at, span_of}
use Rattle.block_rows.specs.Ends.{Gives}
use Rattle.block_rows.proofs.each_span.Given as goal

abbrev pub invariant-loop-k : goal.invariant-loop-k
invariant-loop-k g l = (length l.y ≡ length l.initial.y)
    × ((f : Span → ℤ) → Gives (FnReturnsAt g.F.Fn l.end) f → l.y ≡ fold l.k (λ i l'. set l' i (fromℤ (f (span_of (span_at l.fn.b i))))) l.initial.y)
