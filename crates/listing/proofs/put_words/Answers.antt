use Rattle.folds.specs.Kit.{ℕ, ◌≡◌, refl, sym, ap, ◌∙◌, ◌<◌, arith, rules}
use lib.ListN.{get_or}
use native.Mathlib.Nat.{le_antisymm}
use mir.Syntax.{w64}
use mir.Val.{to_z, of_z}
use Rattle.block.specs.Block.{word}
use Rattle.block.specs.Plan.{time}
use Rattle.format.specs.Structs.{block_of}
use Rattle.format.specs.Lent.{Lent, lent-words}
use Rattle.exact.specs.Planned.{of-word}
use Rattle.listing.specs.Listing.{word_line, word_lines}
use Rattle.listing.specs.Appended.{room_as, appended_as}
use Rattle.listing.specs.Laws.{lines_none, room-line, lines_turn}
use Rattle.listing.proofs.put_words.Goals as goal
use Rattle.listing.proofs.put_words.Goals.{After-time_at}

-- in a turn, when the word's time is read
module _ (c : After-time_at) where
  abbrev i : ℕ
  i = c.loop-i.i

  lent : Lent c.args.b.word c.args.b.words c.words-w-items.result.now
  lent = lent-words c.requires.planned.sound c.words-w-items.ensures

  more : i < c.args.b.words
  more = lent.within c.loop-i-test.true

  same : word_line i (get_or c.words-w-items.result.now i (record { lower = 0; upper = 0; key = 0; start = 0; slope = 0 })).key (to_z w64 (of_z w64 c.time_at.result))
      ≡ word_line i (word (block_of c.args.b) i).key (time c.args.times.now i)
  same =
      ap (λ w. word_line i w.key (to_z w64 (of_z w64 c.time_at.result))) (lent.at _ c.loop-i-test.true)
      ∙ of-word c.requires.planned more c.time_at.ensures (λ w z. word_line i w.key z) refl

pub loop-i-init : goal.loop-i-init
loop-i-init c = (refl, lines_none _ _ _ _)

pub put_word-end-requires : goal.put_word-end-requires
put_word-end-requires c = room_as (sym (same (goal.at.put_word-end-requires c).After-time_at)) (room-line _ _ c.requires.room (more (goal.at.put_word-end-requires c).After-time_at) c.loop-i.invariant.1)

pub loop-i-preserved : goal.loop-i-preserved
loop-i-preserved c =
    let d = (goal.at.loop-i-preserved c).After-time_at in
    (search rules, lines_turn _ _ c.requires.room (more d) c.loop-i.invariant.1 (appended_as (same d) c.put_word-end.ensures))

pub shape_of-out : goal.shape_of-out
shape_of-out c = c.loop-i.invariant.0

pub returns : goal.returns
returns c =
    let a = c.args in
    let l = (lent-words c.requires.planned.sound c.words-w-items.ensures).long in
    appended_as (ap (λ (n : ℕ). word_lines n (block_of a.b) a.times.now) (le_antisymm (omega (arith, c.loop-i.auto.i-end, l)) (omega (arith, c.loop-i-test.false, l))))
    c.loop-i.invariant.1
