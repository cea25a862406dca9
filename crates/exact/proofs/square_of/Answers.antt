use mathlib.Core.Path.{sym, ◌∙◌}
use mir.Syntax.{w64}
use mir.Val.{of_z}
use lib.IntN.{pos}
use Rattle.ints.specs.Held.{Held, called, cast, fits*, by}
use Rattle.block.specs.Plan.{off}
use Rattle.block.specs.Laws.{square_of-is}
use Rattle.block.specs.Fits.{off-b}
use Rattle.format.specs.Structs.{tempo_of}
use Rattle.exact.proofs.square_of.Goals as goal
use Rattle.exact.proofs.square_of.Goals.{After-off-o}

module _ (c : After-off-o) where
  weight : Held w64 c.args.t.weight (pos c.args.t.weight) 64
  weight = cast w64 c.requires.ranged_tempo.weight tt

  o : Held w64 (of_z w64 c.off-o.result) (off (tempo_of c.args.t) c.args.times.now) 16777216
  o = called w64 c.off-o.ensures (off-b c.requires.timed c.requires.ranged_tempo) tt

pub overflow_mul-result : goal.overflow_mul-result
overflow_mul-result c = fits* (o (goal.at.overflow_mul-result c).After-off-o) (o (goal.at.overflow_mul-result c).After-off-o) tt

pub overflow_mul-result-2 : goal.overflow_mul-result-2
overflow_mul-result-2 c = fits* (weight (goal.at.overflow_mul-result-2 c).After-off-o) (by (o (goal.at.overflow_mul-result-2 c).After-off-o) (o (goal.at.overflow_mul-result-2 c).After-off-o) tt) tt

pub returns : goal.returns
returns c = (by (weight (goal.at.returns c).After-off-o) (by (o (goal.at.returns c).After-off-o) (o (goal.at.returns c).After-off-o) tt) tt).is ∙ sym (square_of-is _ _)
