use mathlib.Core.Path.{sym, ◌∙◌, ap, ap₂}
use Prim.Native.Nat.{ℕ, ◌<◌}
use native.Mathlib.Omega.{arith}
use lib.IntN.{ℤ, ◌+ℤ◌}
use mir.Syntax.{w64}
use mir.Val.{to_z, of_z}
use Rattle.ints.specs.Sum.{Σ}
use Rattle.ints.specs.Bound.{◌≼◌, ◌+b◌}
use Rattle.ints.specs.Held.{Held, called, read, Σ-none, Σ-fits, Σ_turn, Σ_end}
use Rattle.block.specs.Block.{Block, word}
use Rattle.block.specs.Plan.{time}
use Rattle.block.specs.Gap.{g, anchor_part, h, word_gap, word_gap_of}
use Rattle.block.specs.Laws.{h-is, word_gap_of-is, word_gaps-is}
use Rattle.block.specs.Fits.{g-b, anchor_part-b, h-b, word_gap_of-b, word_gaps-b}
use Rattle.format.specs.Structs.{block_of, word_of}
use Rattle.format.specs.Entries.{words-length, word_in, in_words}
use Rattle.format.specs.Lent.{Lent, lent-words}
use Rattle.exact.specs.Planned.{plan-timed, timed-at, of-word}
use Rattle.gap.specs.Prices.{anchor_prices, prices_with}
use Rattle.gap.specs.Input.{input_priced}
use Rattle.gap.specs.Words.{at, Each, Within, each-small, each-added}
use Rattle.gap.proofs.word_gaps.Goals as goal
use Rattle.gap.proofs.word_gaps.Goals.{After-add_anchors, After-half_slopes-g, After-time_at, After-word_gap-sum}

-- ---- each word's half slope, with the anchors' parts, and with the spans'
module _ (c : After-half_slopes-g) where
  slopes : Within c.args.b.words c.half_slopes-g.result 2199023255552
  slopes = each-small c.half_slopes-g.ensures (g-b c.requires.planned.ranged (plan-timed c.requires.planned))

module _ (c : After-add_anchors) where
  abbrev B : Block
  B = block_of c.args.b

  abbrev anchored : ℕ → ℤ
  anchored i = g B c.args.times.now i +ℤ anchor_part B (anchor_prices B c.args.prices.now) i

  each-anchored : Each c.args.b.words anchored c.add_anchors.result
  each-anchored = each-added c.half_slopes-g.ensures c.add_anchors.ensures

  with-anchors : Within c.args.b.words c.add_anchors.result 3298534883328
  with-anchors =
      each-small each-anchored
      (λ i. g-b c.requires.planned.ranged (plan-timed c.requires.planned) i +b anchor_part-b c.requires.planned.ranged (input_priced c.requires) i)

-- ---- a turn
module _ (c : After-time_at) where
  abbrev b : Block
  b = block_of c.args.b

  lent : Lent c.args.b.word c.args.b.words c.words-w-items.result.now
  lent = lent-words c.requires.planned.sound c.words-w-items.ensures

  in_block : c.loop-i.i < c.args.b.words
  in_block = lent.within c.loop-i-test.true

  -- word i's half slope and its h, as the arrays have them
  abbrev gᵢ : ℤ
  gᵢ = at c.half_slopes-g.result c.loop-i.i

  abbrev hᵢ : ℤ
  hᵢ = at c.add_spans-h.result c.loop-i.i

  slope : Held w64 (of_z w64 gᵢ) (g b c.args.times.now c.loop-i.i) 2199023255552
  slope =
      called w64 (c.half_slopes-g.ensures.is _ in_block)
      (g-b c.requires.planned.ranged (plan-timed c.requires.planned) c.loop-i.i) tt

  steep : Held w64 (of_z w64 hᵢ) (h b c.args.times.now (prices_with b c.args.prices.now c.args.cap) c.loop-i.i) 5497558138880
  steep =
      called w64 ((each-added (each-anchored (goal.at.After-time_at c).After-add_anchors) c.add_spans-h.ensures).is _ in_block ∙ sym (h-is _ _ _ _))
      (h-b c.requires.planned.ranged (input_priced c.requires) (plan-timed c.requires.planned) c.loop-i.i) tt

module _ (c : After-word_gap-sum) where
  -- word i's part
  abbrev part : ℕ → ℤ
  part = word_gap_of (block_of c.args.b) c.args.times.now (prices_with (block_of c.args.b) c.args.prices.now c.args.cap)

  term : Held w64 (of_z w64 c.word_gap-sum.result) (part c.loop-i.i) 2089672426089611264
  term =
      let T = (goal.at.After-word_gap-sum c).After-time_at in
      called w64
      (of-word c.requires.planned (in_block T) c.time_at.ensures
      (λ w y. word_gap w (to_z w64 (of_z w64 (gᵢ (goal.at.After-word_gap-sum c).After-time_at))) (to_z w64 (of_z w64 (hᵢ (goal.at.After-word_gap-sum c).After-time_at))) c.args.cap y)
      (c.word_gap-sum.ensures ∙ ap (λ w. word_gap (word_of w) (to_z w64 (of_z w64 (gᵢ T))) (to_z w64 (of_z w64 (hᵢ T))) c.args.cap (to_z w64 (of_z w64 c.time_at.result))) ((lent T).at _ c.loop-i-test.true))
      ∙ ap₂ (λ (u v : ℤ). word_gap (word (block_of c.args.b) c.loop-i.i) u v c.args.cap (time c.args.times.now c.loop-i.i))
      (slope (goal.at.After-word_gap-sum c).After-time_at).is (steep (goal.at.After-word_gap-sum c).After-time_at).is
      ∙ sym (word_gap_of-is _ _ _ _))
      (word_gap_of-b c.requires.planned.ranged (input_priced c.requires) (plan-timed c.requires.planned) c.loop-i.i
      (in_words c.requires.planned.sound (in_block T))) tt

  so-far-b : Σ c.loop-i.i part ≼ 2089672426089611264
  so-far-b =
      word_gaps-b c.requires.planned.ranged (input_priced c.requires) (plan-timed c.requires.planned) c.loop-i.i
      (omega (arith, in_block (goal.at.After-word_gap-sum c).After-time_at, words-length c.requires.planned.sound))

pub add_anchors-requires : goal.add_anchors-requires
add_anchors-requires c =
    record {
      price_list = c.requires.prices;
      within = slopes c;
    }

pub add_spans-h-requires : goal.add_spans-h-requires
add_spans-h-requires c =
    record {
      price_list = c.requires.prices;
      within = with-anchors c;
    }

pub loop-i-init : goal.loop-i-init
loop-i-init c = (Σ-none _).total

pub word_gap-sum-requires : goal.word_gap-sum-requires
word_gap-sum-requires c =
    let p = c.requires in record {
      ranged_word = rw ((lent (goal.at.word_gap-sum-requires c).After-time_at).at _ c.loop-i-test.true) (word_in p.planned.sound p.planned.ranged (in_block (goal.at.word_gap-sum-requires c).After-time_at));
      g = (read (slope (goal.at.word_gap-sum-requires c).After-time_at), read (steep (goal.at.word_gap-sum-requires c).After-time_at), p.cap_small, read (timed-at p.planned (in_block (goal.at.word_gap-sum-requires c).After-time_at) c.time_at.ensures));
    }

pub overflow_add-sum : goal.overflow_add-sum
overflow_add-sum c = Σ-fits {s = c.loop-i.sum-bits} (record { total = c.loop-i.invariant }) (so-far-b (goal.at.overflow_add-sum c).After-word_gap-sum) (term (goal.at.overflow_add-sum c).After-word_gap-sum) tt

pub loop-i-preserved : goal.loop-i-preserved
loop-i-preserved c = (Σ_turn {s = c.loop-i.sum-bits} (record { total = c.loop-i.invariant }) (so-far-b (goal.at.loop-i-preserved c).After-word_gap-sum) (term (goal.at.loop-i-preserved c).After-word_gap-sum) tt).total

pub returns : goal.returns
returns c =
    let n = words-length c.requires.planned.sound in
    let l = (lent-words c.requires.planned.sound c.words-w-items.ensures).long in
    Σ_end {s = c.loop-i.sum-bits} (record { total = c.loop-i.invariant }) _ (omega (arith, c.loop-i.auto.i-end)) (omega arith) ∙ sym (word_gaps-is _ _ _)
