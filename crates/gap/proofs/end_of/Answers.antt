use mathlib.Core.Path.{◌∙◌, ap₂}
use lib.IntN.{ℤ, ◌*ℤ◌}
use mir.Syntax.{w64}
use mir.Val.{to_z, of_z}
use Rattle.std.specs.Int.{int_max}
use Rattle.gap.proofs.Library.{largest}
use Rattle.ints.specs.Bound.{max-b}
use Rattle.ints.specs.Held.{Held, cell, called, by}
use Rattle.gap.proofs.end_of.Goals as goal
use Rattle.gap.proofs.end_of.Goals.{Start}

module _ (a : Start) where
  abbrev p : ℤ
  p = a.args.p

  low : Held w64 (of_z w64 (to_z w64 (of_z w64 p) *ℤ to_z w64 (of_z w64 a.args.s.lower))) (p *ℤ a.args.s.lower) 36028797018963968
  low = by (cell w64 a.requires.0 tt) (cell w64 a.requires.1 tt) tt

  high : Held w64 (of_z w64 (to_z w64 (of_z w64 p) *ℤ to_z w64 (of_z w64 a.args.s.upper))) (p *ℤ a.args.s.upper) 36028797018963968
  high = by (cell w64 a.requires.0 tt) (cell w64 a.requires.2 tt) tt

pub returns : goal.returns
returns c =
    let a = (goal.at.returns c).Start in
    (called w64 (c.max.ensures.value ∙ ap₂ int_max (low a).is (high a).is ∙ largest _ _) (max-b (low a).bound (high a).bound) tt).is
