use Rattle.folds.specs.Kit.{◌≡◌, ◌∙◌, true, false, sym, both}
use lib.Ieee.{lt}
use Rattle.folds.specs.Fold.{false_true}
use Rattle.segments.specs.Segments.{cuts}
use Rattle.segments.proofs.cuts.Goals as goal
use Rattle.segments.proofs.cuts.Goals.{then-slope, else-slope}

pub returns-then-lower-at : goal.returns-then-lower-at
unfolding cuts both
returns-then-lower-at c =
    elim c.if-slope.branch [
      | then-slope w ↦ let e : lt c.args.lower c.args.at ≡ true = sym w.value-is ∙ c.if-lower-at.true in rw (w.if-slope.true, e)
      | else-slope w ↦ absurd (false_true (sym w.if-slope.false ∙ sym w.value-is ∙ c.if-lower-at.true))
    ]

pub returns-else-lower-at : goal.returns-else-lower-at
unfolding cuts both
returns-else-lower-at c =
    elim c.if-slope.branch [
      | then-slope w ↦ let e : lt c.args.lower c.args.at ≡ false = sym w.value-is ∙ c.if-lower-at.false in rw (c.if-lower-at.false, w.if-slope.true, e)
      | else-slope w ↦ rw (c.if-lower-at.false, w.if-slope.false)
    ]
