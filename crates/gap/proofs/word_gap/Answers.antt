use mathlib.Core.Path.{sym, ◌∙◌, ap}
use lib.IntN.{ℤ, ◌*ℤ◌}
use mir.Syntax.{w64}
use mir.Val.{to_z, of_z}
use Rattle.ints.specs.Held.{Held, cell, called, read, fits+, fits-, plus, less, by}
use Rattle.block.specs.Plan.{bend}
use Rattle.block.specs.Gap.{line, candidates, least}
use Rattle.block.specs.Laws.{word_gap-is}
use Rattle.block.specs.Fits.{bend-b, least-line-b}
use Rattle.format.specs.Structs.{word_of}
use Rattle.gap.proofs.word_gap.Goals as goal
use Rattle.gap.proofs.word_gap.Goals.{After-bend, After-least}

module _ (c : After-bend) where
  gt : Held w64 (of_z w64 (to_z w64 (of_z w64 c.args.g) *ℤ to_z w64 (of_z w64 c.args.x))) (c.args.g *ℤ c.args.x) 576460752303423488
  gt = by (cell w64 c.requires.g.0 tt) (cell w64 c.requires.g.3 tt) tt

  bent : Held w64 (of_z w64 c.bend.result) (bend (word_of c.args.w) c.args.x) 34359214080
  bent =
      called w64 (c.bend.ensures ∙ ap (bend (word_of c.args.w)) (cell w64 c.requires.g.3 tt).is) (bend-b c.requires.ranged_word c.requires.g.3) tt

module _ (c : After-least) where
  abbrev least_of : ℤ → ℤ
  least_of h = least (line (word_of c.args.w) h c.args.cap) (candidates (word_of c.args.w))

  lowest : Held w64 (of_z w64 c.least.result) (least_of c.args.h) 1443403714931458048
  lowest =
      called w64 (c.least.ensures ∙ ap least_of (cell w64 c.requires.g.1 tt).is)
      (least-line-b c.requires.ranged_word c.args.h c.args.cap c.requires.g.1 c.requires.g.2) tt

pub bend-requires : goal.bend-requires
bend-requires c =
    record {
      ranged_word = c.requires.ranged_word;
      t = read (cell w64 c.requires.g.3 tt);
    }

pub overflow_add-result : goal.overflow_add-result
overflow_add-result c = fits+ (gt (goal.at.overflow_add-result c).After-bend) (bent (goal.at.overflow_add-result c).After-bend) tt

pub least-requires : goal.least-requires
least-requires c =
    record {
      ranged_word = c.requires.ranged_word;
      h = (read (cell w64 c.requires.g.1 tt), c.requires.g.2);
    }

pub overflow_sub-result : goal.overflow_sub-result
overflow_sub-result c = fits- (plus (gt (goal.at.overflow_sub-result c).After-bend) (bent (goal.at.overflow_sub-result c).After-bend) tt) (lowest (goal.at.overflow_sub-result c).After-least) tt

pub returns : goal.returns
returns c = (less (plus (gt (goal.at.returns c).After-bend) (bent (goal.at.returns c).After-bend) tt) (lowest (goal.at.returns c).After-least) tt).is ∙ sym (word_gap-is _ _ _ _ _)
