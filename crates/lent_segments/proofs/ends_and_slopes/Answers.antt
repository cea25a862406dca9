use Rattle.folds.specs.Kit.{arith, length, fold_call, over-tab, kit}
use lib.Ieee.{Float}
use Rattle.lent_segments.specs.Lent.{entries}
use Rattle.lent_segments.specs.declared.Segment.{Segment}
use Rattle.lent_segments.proofs.ends_and_slopes.Invariants.{entry}
use Rattle.lent_segments.proofs.ends_and_slopes.Goals as goal

pub loop-t-init : goal.loop-t-init
loop-t-init c = search kit

pub ends-segment-requires : goal.ends-segment-requires
ends-segment-requires c =
    let below = c.requires.0.below c.loop-t.t c.loop-t-test.true in (omega arith, c.requires.0.inside c.loop-t.t c.loop-t-test.true)

pub loop-t-preserved : goal.loop-t-preserved
loop-t-preserved c =
    let i = c.loop-t.invariant in
    (fold_call _ _ _ i.0 (rw c.ends-segment.ensures), fold_call _ _ _ i.1 (rw c.ends-segment.ensures), fold_call _ _ _ i.2 (rw c.ends-segment.ensures))

pub returns : goal.returns
unfolding entries
returns c =
    let i = c.loop-t.invariant in
    let n = length c.args.indices.now in
    let g = λ (read : Segment → Float). entry read c.args.indices.now c.args.segments.now c.args.state in (
      over-tab _ n (g (λ s. s.lower)) _ (omega arith) c.loop-t-test.false (omega arith) i.0,
      over-tab _ n (g (λ s. s.upper)) _ (omega arith) c.loop-t-test.false (omega arith) i.1,
      over-tab _ n (g (λ s. s.slope)) _ (omega arith) c.loop-t-test.false (omega arith) i.2,
    )
