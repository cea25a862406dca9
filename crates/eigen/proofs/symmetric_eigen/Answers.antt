use borrow.Author.Tests.{not-true, not-false}
use Rattle.eigen.proofs.Whole.{refused, of-zero, divisible, swept}
use mathlib.Core.Path.{ap}
use mathlib.Core.Bool.{not}
use Rattle.eigen.proofs.symmetric_eigen.Goals as goal

pub returns-then-not-all_finite : goal.returns-then-not-all_finite
returns-then-not-all_finite c =
    refused _ _ c.requires.0 c.all_finite.ensures _ _
    (not-true c.all_finite.result (ap not c.if-not-all_finite.true))

pub returns-then-scale : goal.returns-then-scale
returns-then-scale c =
    let pre = c.requires in
    of-zero _ _ pre.0 c.all_finite.ensures (not-false c.all_finite.result (ap not c.if-not-all_finite.false)) c.amax-scale.ensures _ _
    c.if-scale.true pre.2 pre.3 c.fill.ensures c.identity.ensures

pub jacobi-requires : goal.jacobi-requires
jacobi-requires c =
    let pre = c.requires in (
      pre.0,
      pre.1,
      pre.2,
      pre.3,
      divisible _ _ pre.0 c.all_finite.ensures (not-false c.all_finite.result (ap not c.if-not-all_finite.false)) c.amax-scale.ensures
          c.if-scale.false,
    )

pub returns : goal.returns
returns c =
    swept _ _ c.requires.0 c.all_finite.ensures
    (not-false c.all_finite.result (ap not c.if-not-all_finite.false)) c.amax-scale.ensures
    c.if-scale.false c.jacobi.ensures
