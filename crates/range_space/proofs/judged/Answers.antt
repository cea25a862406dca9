use Rattle.std.specs.Prelude.{◌≡◌, refl, Bool, true, false, Option, Some, None, List, Float}
use Rattle.std.specs.Option.{option_eq}
use mathlib.Core.Bool.{beq}
use Rattle.folds.specs.Kit.{pick}
use Rattle.range_space.specs.Factored.{found_of, judge, judged}
use Rattle.range_space.proofs.judged.Goals as goal

by_judge : (o : Option Bool) (x multipliers : List Float) → found_of (option_eq beq o (Some true)) x multipliers ≡ judge o x multipliers
unfolding found_of judge pick
by_judge (Some true) x multipliers = refl
by_judge (Some false) x multipliers = refl
by_judge None x multipliers = refl

pub returns : goal.returns
unfolding judged
returns c = rw (c.eq.ensures, ← c.kkt_residual-residual.ensures, ← c.within_rounding.ensures) (by_judge _ _ _)
