use native.Mathlib.Omega.{arith}
use borrow.Author.Rules.{rules}
use lib.ListN.{length-set}
use mir.Syntax.{w64}
use mir.Val.{of_z}
use Rattle.ints.specs.Held.{Held, called}
use Rattle.block.specs.Gap.{slope_of}
use Rattle.block.specs.Fits.{slope_of-b}
use Rattle.format.specs.Structs.{tempo_of}
use Rattle.gap.specs.Words.{passed-none, passed-fits, passed_turn, passed_end}
use Rattle.gap.proofs.add_slopes.Goals as goal
use Rattle.gap.proofs.add_slopes.Goals.{After-slope_of}

-- ---- a turn
module _ (c : After-slope_of) where
  slope : Held w64 (of_z w64 c.slope_of.result) (slope_of (tempo_of c.args.t) c.args.times.now c.loop-i.i) 34359738368
  slope = called w64 c.slope_of.ensures (slope_of-b c.requires.timed c.requires.ranged_tempo c.loop-i.i) tt

pub loop-i-init : goal.loop-i-init
loop-i-init c = (search rules, search rules, passed-none _ _)

pub overflow_add-sums : goal.overflow_add-sums
overflow_add-sums c =
    let e = (goal.at.overflow_add-sums c).After-slope_of in
    passed-fits c.loop-i.invariant.2 c.requires.times_len_bound.1 c.loop-i-test.true (slope e) tt tt

pub loop-i-preserved : goal.loop-i-preserved
loop-i-preserved c =
    let e = (goal.at.loop-i-preserved c).After-slope_of in (
      search rules,
      simp length-set c.loop-i.invariant.1,
      passed_turn c.loop-i.invariant.2 c.requires.times_len_bound.1 c.loop-i-test.true (slope e) tt tt (omega arith),
    )

pub returns : goal.returns
returns c = passed_end c.loop-i.invariant.2 (omega arith)
