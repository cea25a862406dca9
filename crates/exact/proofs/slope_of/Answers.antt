use mathlib.Core.Path.{sym, ◌∙◌}
use mir.Syntax.{w64}
use mir.Val.{of_z}
use lib.IntN.{pos}
use Rattle.ints.specs.Held.{Held, called, cast, fits*, by}
use Rattle.block.specs.Plan.{off}
use Rattle.block.specs.Gap.{coef_of}
use Rattle.block.specs.Laws.{slope_of-is}
use Rattle.block.specs.Fits.{off-b, coef_of-b}
use Rattle.format.specs.Structs.{tempo_of, list_of}
use Rattle.exact.proofs.slope_of.Goals as goal
use Rattle.exact.proofs.slope_of.Goals.{After-coef_of, After-off}

module _ (c : After-off) where
  weight : Held w64 c.args.t.weight (pos c.args.t.weight) 64
  weight = cast w64 c.requires.ranged_tempo.weight tt

  o : Held w64 (of_z w64 c.off.result) (off (tempo_of c.args.t) c.args.times.now) 16777216
  o = called w64 c.off.ensures (off-b c.requires.timed c.requires.ranged_tempo) tt

module _ (c : After-coef_of) where
  coef : Held w64 (of_z w64 c.coef_of.result) (coef_of c.args.i (list_of c.args.t.list)) 32
  coef = called w64 c.coef_of.ensures (coef_of-b c.requires.ranged_tempo.list.short c.args.i) tt

pub overflow_mul-result : goal.overflow_mul-result
overflow_mul-result c = fits* (weight c) (o c) tt

pub coef_of-requires : goal.coef_of-requires
coef_of-requires c =
    let p = c.requires in record {
      filled = p.filled;
      short = p.ranged_tempo.list.short;
    }

pub overflow_mul-result-2 : goal.overflow_mul-result-2
overflow_mul-result-2 c = fits* (by (weight (goal.at.overflow_mul-result-2 c).After-off) (o (goal.at.overflow_mul-result-2 c).After-off) tt) (coef c) tt

pub returns : goal.returns
returns c = (by (by (weight (goal.at.returns c).After-off) (o (goal.at.returns c).After-off) tt) (coef c) tt).is ∙ sym (slope_of-is _ _ _)
