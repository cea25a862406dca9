use Rattle.folds.specs.Kit.{◌<◌, arith, rules, spans, span_call}
use Rattle.matrix.specs.Matrix.{index}
use Rattle.substitution.specs.Substitution.{known_from}
use Rattle.substitution.proofs.known_from.Goals as goal
use Rattle.substitution.proofs.known_from.Goals.{In-loop-k}

below : (c : In-loop-k) →
    index c.args.pivots.now c.loop-k.k < c.args.m
below c = c.requires.2 _ c.loop-k-test.true

pub get-requires : goal.get-requires
get-requires c = let r = c.requires in (r.0, r.3, below (goal.at.get-requires c).In-loop-k)

pub loop-k-preserved : goal.loop-k-preserved
loop-k-preserved c =
    let inv = c.loop-k.invariant in
    (omega arith, omega arith, span_call _ _ _ _ inv.0 inv.2 (rw c.get.ensures))

pub offset_bounds-lambda-l : goal.offset_bounds-lambda-l
offset_bounds-lambda-l c = omega (arith, below (goal.at.offset_bounds-lambda-l c).In-loop-k)

pub bounds-lambda-l : goal.bounds-lambda-l
bounds-lambda-l c = omega (arith, below (goal.at.bounds-lambda-l c).In-loop-k)

pub loop-k-init : goal.loop-k-init
loop-k-init c = search (spans, rules)

pub returns : goal.returns
unfolding known_from
returns c = search (spans, rules)
