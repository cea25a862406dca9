use mathlib.Core.Path.{sym, ◌∙◌, ap, ap₂, subst}
use Prim.Native.Nat.{ℕ, ◌≤◌}
use lib.IntN.{pos}
use lib.Signed.{le_z}
use mir.Syntax.{w64}
use mir.Val.{of_z}
use Rattle.ints.specs.Bound.{sfits, pos_b}
use Rattle.ints.specs.Held.{Held, called, also, cast, literal, fits-, fits*, less, by}
use Rattle.block.specs.Plan.{moves}
use Rattle.block.specs.Laws.{moves_bounded-is}
use Rattle.block.specs.Fits.{all-moves-b}
use Rattle.format.specs.Structs.{block_of}
use Rattle.format.specs.Entries.{cap-is, words-length}
use Rattle.exact.specs.Planned.{plan-timed}
use Rattle.bounds.proofs.moves_bounded.Goals as goal
use Rattle.bounds.proofs.moves_bounded.Goals.{After-moves-m}

two : Held w64 2 (pos 2) 2
two = literal w64 (pos 2) tt

module _ (c : After-moves-m) where
  moved : Held w64 (of_z w64 c.moves-m.result) (moves (block_of c.args.b) c.args.times.now) 16777216
  moved = called w64 c.moves-m.ensures (all-moves-b c.requires.ranged (plan-timed c.requires)) tt

  limit : Held w64 c.args.b.cap (pos (block_of c.args.b).cap) 8388608
  limit =
      let e = cap-is c.args.b in
      also (ap pos (sym e)) (cast w64 (subst (λ (n : ℕ). n ≤ 8388608) e c.requires.ranged.cap) tt)

  count : Held w64 c.args.b.words (pos c.args.b.words) 32
  count = cast w64 c.requires.sound.words tt

pub overflow_cast-result : goal.overflow_cast-result
overflow_cast-result c = sfits (pos_b (subst (λ (n : ℕ). n ≤ 8388608) (cap-is _) c.requires.ranged.cap)) tt

pub overflow_sub-result : goal.overflow_sub-result
overflow_sub-result c = fits- (moved (goal.at.overflow_sub-result c).After-moves-m) (limit (goal.at.overflow_sub-result c).After-moves-m) tt

pub overflow_mul-result : goal.overflow_mul-result
overflow_mul-result c = fits* two (less (moved (goal.at.overflow_mul-result c).After-moves-m) (limit (goal.at.overflow_mul-result c).After-moves-m) tt) tt

pub returns : goal.returns
returns c =
    let b = (goal.at.returns c).After-moves-m in
    ap₂ le_z (by two (less (moved b) (limit b) tt) tt).is ((count b).is ∙ ap pos (sym (words-length c.requires.sound)))
    ∙ sym (moves_bounded-is _ _)
