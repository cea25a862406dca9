use Rattle.folds.specs.Kit.{◌≡◌, true, false, ℕ, pick}
use mathlib.Core.List.{List}
use lib.Ieee.{Float, eq}
use Rattle.folds.specs.Part.{two}
use Rattle.arith.specs.Float.{f0}
use Rattle.columns.specs.Columns.{cell}
use Rattle.angle.specs.declared.Turn.{Turn}
use Rattle.angle.specs.Angle.{angle}
use Rattle.rotation.specs.Rotation.{turned, turn_columns, rotate}
use Rattle.rotation.proofs.rotate.Goals as goal

module _ {x : Float} (n p q : ℕ) (a v : List Float) (entry : x ≡ cell a n p q) where
  skipped : eq x f0 ≡ true → two a v ≡ rotate n p q (two a v)
  unfolding rotate pick
  skipped zero = rw (← entry, zero)

  rotated : {t : Turn} {b w : List Float} → eq x f0 ≡ false → t ≡ angle n p q a → b ≡ turned n p q t a → w ≡ turn_columns n p q t v →
      two b w ≡ rotate n p q (two a v)
  unfolding rotate pick
  rotated other turn matrix vectors = rw (← entry, other, ← turn, ← matrix, ← vectors)

pub returns-then-get : goal.returns-then-get
returns-then-get c = skipped _ _ _ _ _ c.get.ensures c.if-get.true

pub returns : goal.returns
returns c = rotated _ _ _ _ _ c.get.ensures c.if-get.false c.angle-t.ensures c.turned.ensures c.turn_columns.ensures
