use mathlib.Core.Path.{sym, ◌∙◌, ap, subst}
use Prim.Native.Nat.{ℕ, ◌≤◌}
use lib.IntN.{pos, ◌*ℤ◌}
use mir.Syntax.{w64}
use mir.Val.{to_z, of_z}
use Rattle.ints.specs.Bound.{sfits}
use Rattle.ints.specs.Held.{Held, literal, called, also, cast, fits+, fits*, plus, by}
use Rattle.block.specs.Gap.{word_gaps, values, ends}
use Rattle.block.specs.Laws.{gap_is}
use Rattle.block.specs.Fits.{all-word_gaps-b, all-values-b, all-ends-b}
use Rattle.format.specs.Structs.{block_of}
use Rattle.format.specs.Entries.{cap-is}
use Rattle.exact.specs.Planned.{plan-timed}
use Rattle.gap.specs.Prices.{anchor_prices, span_prices, prices_with}
use Rattle.gap.specs.Input.{input_priced}
use Rattle.gap.proofs.gap.Goals as goal
use Rattle.gap.proofs.gap.Goals.{After-ends, After-values, After-word_gaps, Start}

-- ---- the four totals
module _ (a : Start) where
  price : Held w64 a.args.cap (pos a.args.cap) 4294967296
  price = cast w64 a.requires.cap_small tt

  limit : Held w64 a.args.b.cap (pos a.args.b.cap) 8388608
  limit = cast w64 (subst (λ (n : ℕ). n ≤ 8388608) (cap-is a.args.b) a.requires.planned.ranged.cap) tt

  capped : Held w64 (of_z w64 (to_z w64 a.args.cap *ℤ to_z w64 a.args.b.cap))
      (pos a.args.cap *ℤ pos (block_of a.args.b).cap) 36028797018963968
  capped = also (ap (λ (n : ℕ). pos a.args.cap *ℤ pos n) (sym (cap-is a.args.b))) (by price limit tt)

module _ (c : After-word_gaps) where
  W : Held w64 (of_z w64 c.word_gaps.result)
      (word_gaps (block_of c.args.b) c.args.times.now (prices_with (block_of c.args.b) c.args.prices.now c.args.cap))
      2089672426089611264
  W = called w64 c.word_gaps.ensures (all-word_gaps-b c.requires.planned.ranged (input_priced c.requires) (plan-timed c.requires.planned)) tt

module _ (c : After-values) where
  A : Held w64 (of_z w64 c.values.result)
      (values (block_of c.args.b) (anchor_prices (block_of c.args.b) c.args.prices.now)) 288230376151711744
  A = called w64 c.values.ensures (all-values-b c.requires.planned.ranged (input_priced c.requires)) tt

module _ (c : After-ends) where
  S : Held w64 (of_z w64 c.ends.result)
      (ends (block_of c.args.b) (span_prices (block_of c.args.b) c.args.prices.now)) 576460752303423488
  S = called w64 c.ends.ensures (all-ends-b c.requires.planned.ranged (input_priced c.requires)) tt

two : Held w64 2 (pos 2) 2
two = literal w64 (pos 2) tt

pub overflow_cast-c-2 : goal.overflow_cast-c-2
overflow_cast-c-2 c = sfits (limit (goal.at.overflow_cast-c-2 c).Start).bound tt

pub overflow_mul-c : goal.overflow_mul-c
overflow_mul-c c = fits* (price (goal.at.overflow_mul-c c).Start) (limit (goal.at.overflow_mul-c c).Start) tt

pub overflow_mul-result : goal.overflow_mul-result
overflow_mul-result c = fits* two (W (goal.at.overflow_mul-result c).After-word_gaps) tt

pub overflow_mul-result-2 : goal.overflow_mul-result-2
overflow_mul-result-2 c = fits* two (A (goal.at.overflow_mul-result-2 c).After-values) tt

pub overflow_add-result : goal.overflow_add-result
overflow_add-result c = fits+ (by two (W (goal.at.overflow_add-result c).After-word_gaps) tt) (by two (A (goal.at.overflow_add-result c).After-values) tt) tt

pub overflow_mul-result-3 : goal.overflow_mul-result-3
overflow_mul-result-3 c = fits* two (S (goal.at.overflow_mul-result-3 c).After-ends) tt

pub overflow_add-result-2 : goal.overflow_add-result-2
overflow_add-result-2 c = fits+ (plus (by two (W (goal.at.overflow_add-result-2 c).After-word_gaps) tt) (by two (A (goal.at.overflow_add-result-2 c).After-values) tt) tt) (by two (S (goal.at.overflow_add-result-2 c).After-ends) tt) tt

pub overflow_mul-result-4 : goal.overflow_mul-result-4
overflow_mul-result-4 c = fits* two (capped (goal.at.overflow_mul-result-4 c).Start) tt

pub overflow_add-result-3 : goal.overflow_add-result-3
overflow_add-result-3 c = fits+ (plus (plus (by two (W (goal.at.overflow_add-result-3 c).After-word_gaps) tt) (by two (A (goal.at.overflow_add-result-3 c).After-values) tt) tt) (by two (S (goal.at.overflow_add-result-3 c).After-ends) tt) tt) (by two (capped (goal.at.overflow_add-result-3 c).Start) tt) tt

pub returns : goal.returns
returns c =
    (plus (plus (plus (by two (W (goal.at.returns c).After-word_gaps) tt) (by two (A (goal.at.returns c).After-values) tt) tt) (by two (S (goal.at.returns c).After-ends) tt) tt) (by two (capped (goal.at.returns c).Start) tt) tt).is
    ∙ sym (gap_is _ _ _)
