use Rattle.std.specs.Float.{nan}
use lib.Ieee.{eq}
use Rattle.folds.specs.Kit.{◌∙◌}
use Rattle.folds.specs.Lists.{all-pairs}
use Rattle.stepping.specs.Stepping.{same_point}
use Rattle.stepping.proofs.same_point.Goals as goal

pub returns : goal.returns
unfolding same_point
returns c = let a = c.args in c.eq.ensures ∙ all-pairs nan eq a.n a.a.now a.b.now c.requires.0 c.requires.1
