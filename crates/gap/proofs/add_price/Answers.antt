use mathlib.Core.Path.{refl, subst}
use native.Mathlib.Omega.{arith}
use borrow.Author.Rules.{rules}
use lib.ListN.{length-set}
use lib.IntN.{ℤ, ◌*ℤ◌}
use mir.Syntax.{w64}
use mir.Val.{to_z, of_z}
use Rattle.ints.specs.Held.{Held, cell, called, read, fits*, by}
use Rattle.block.specs.Gap.{coef_of}
use Rattle.block.specs.Fits.{coef_of-b}
use Rattle.format.specs.Structs.{list_of}
use Rattle.gap.specs.Words.{Added, passed-none, passed-fits, passed_turn, passed_end}
use Rattle.gap.proofs.add_price.Goals as goal
use Rattle.gap.proofs.add_price.Goals.{After-coef_of}

-- ---- a turn
module _ (c : After-coef_of) where
  paid : Held w64 (of_z w64 c.args.p) (to_z w64 (of_z w64 c.args.p)) 4294967296
  paid = record { is = refl; bound = read (cell w64 c.requires.p.0 tt) }

  coef : Held w64 (of_z w64 c.coef_of.result) (coef_of c.loop-i.i (list_of c.args.l)) 32
  coef = called w64 c.coef_of.ensures (coef_of-b c.requires.short c.loop-i.i) tt

pub loop-i-init : goal.loop-i-init
loop-i-init c = (search rules, search rules, passed-none _ _)

pub coef_of-requires : goal.coef_of-requires
coef_of-requires c =
    let p = c.requires in record {
      filled = p.filled;
      short = p.short;
    }

pub overflow_mul-sums : goal.overflow_mul-sums
overflow_mul-sums c = fits* (paid (goal.at.overflow_mul-sums c).After-coef_of) (coef (goal.at.overflow_mul-sums c).After-coef_of) tt

pub overflow_add-sums : goal.overflow_add-sums
overflow_add-sums c =
    let e = (goal.at.overflow_add-sums c).After-coef_of in
    passed-fits c.loop-i.invariant.2 c.requires.p.2 c.loop-i-test.true (by (paid e) (coef e) tt) tt tt

pub loop-i-preserved : goal.loop-i-preserved
loop-i-preserved c =
    let e = (goal.at.loop-i-preserved c).After-coef_of in (
      search rules,
      simp length-set c.loop-i.invariant.1,
      passed_turn c.loop-i.invariant.2 c.requires.p.2 c.loop-i-test.true (by (paid e) (coef e) tt) tt tt (omega arith),
    )

pub returns : goal.returns
returns c =
    subst (λ (z : ℤ). Added c.args.n c.args.start (λ i. z *ℤ coef_of i (list_of c.args.l)) c.loop-i.sums)
    (cell w64 c.requires.p.0 tt).is (passed_end c.loop-i.invariant.2 (omega arith))
