use mathlib.Core.Path.{◌∙◌}
use borrow.Author.Rules.{rules}
use lib.ListN.{get_or}
use lib.IntN.{pos}
use mir.Syntax.{w32}
use mir.Val.{SFits}
use mir.Facts.{to_z-of_z}
use Rattle.ints.specs.Held.{widens}
use Rattle.exact.proofs.time_at.Goals as goal

pub returns : goal.returns
returns c = let f : SFits w32 (get_or c.args.times.now c.args.i (pos 0)) = search rules in rw c.from.ensures (to_z-of_z (widens f) ∙ to_z-of_z f)
