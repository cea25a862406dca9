-- What is written, by its cases.
use Rattle.std.specs.Prelude.{◌≡◌, ◌⊎◌, Bool, List, ℕ, ◌+◌, ◌≤◌, ◌<◌, length, ℤ, pos, nat_abs, ◌≤ℤ◌, Float}
use Rattle.std.proofs.Math.Path.{refl, sym}
use Rattle.std.proofs.Common.{◌∙◌, ap, ⊎_elim, true≢false, arith}
use Rattle.std.proofs.Math.Logic.{inl, inr}
use Rattle.std.proofs.Math.Bool.{true, false}
use Rattle.folds.specs.Fold.{pick_true, pick_false, both, both_true, both_yes, both-first, both-second}
use Rattle.ints.specs.Diff.{diff, split}
use Rattle.arith.specs.Float.{at}
use Rattle.arith.specs.Scalar.{is_finite}
use Rattle.reductions.specs.Reductions.{all_finite}
use Rattle.reductions.specs.Laws.{finite-at}
use Rattle.block.specs.Block.{Block, word}
use Rattle.block.specs.Plan.{time}
use Rattle.block.specs.Keeps.{bounded, bounded_true}
use Rattle.block.specs.Laws.{bounded_far}
use Rattle.block.specs.Ranges.{max_time, Ranged, Timed}
use Rattle.gap.specs.Prices.{price_count}
use Rattle.gap.specs.Input.{PlanAndPrices}
use Rattle.plan_check.specs.Laws.{gap-fits}
use Rattle.rounding.specs.Lists.{times_of, all_in_range, prices_of}
use Rattle.rounding.specs.Laws.{time-off, length-times_of, times_of-at, length-prices_of, prices_of-small, all-finite, prices_of-cap, cap_from, cap_small}
use Rattle.rounding.specs.Laws.{one-off}
use Rattle.placement.specs.Placed.{Placed, answered, refused, answer_for, judged, written}

-- ---- a plan within its bounds has its times in range
in_range_lem : (n : ℕ) (z : ℤ) → pos 0 ≤ℤ z → z ≤ℤ pos n → n ≤ max_time → nat_abs z ≤ max_time
in_range_lem n = split _ λ a b. simp diff (omega arith)

from-lower : (l : ℕ) (z : ℤ) → pos l ≤ℤ z → pos 0 ≤ℤ z
from-lower l = split _ λ a b. simp diff (omega arith)

module _ {b : Block} (R : Ranged b) where
  bounded-timed : (x : List ℤ) → length x ≡ length b.words → bounded b x ≡ true → Timed (length x) x
  bounded-timed x l e =
      record {
        small = λ i h.
            let j : i < length b.words = omega arith in
            let w = (bounded_true b x e).windows i j in
            in_range_lem (word b i).upper (time x i) (from-lower (word b i).lower (time x i) w.0) w.1 (R.each_word i j).upper;
      }

  -- ---- what is written of an answer of the engine
  module _ (x multipliers : List Float) (raise : Float) (x_long : length x ≡ length b.words)
      (multipliers_long : length multipliers ≡ price_count b) where
    abbrev times : List ℤ
    times = times_of x

    abbrev prices : List ℤ
    prices = prices_of multipliers raise

    pub plan-and-prices : bounded b times ≡ true → PlanAndPrices b times prices
    plan-and-prices e =
        record {
          times = length-times_of x ∙ x_long;
          prices = length-prices_of multipliers raise ∙ ap (λ (n : ℕ). n + 1) multipliers_long;
          timed = bounded-timed times (length-times_of x ∙ x_long) e;
          small = λ k h. prices_of-small multipliers raise k (omega arith);
          cap_from = rw (← multipliers_long, prices_of-cap multipliers raise) (cap_from raise);
          cap_small = rw (← multipliers_long, prices_of-cap multipliers raise) (cap_small raise).size;
        }

    module _ (passes : ℕ) where
      -- 14, by the three ways to it
      pub not-bounded : {r : Placed} → bounded b times ≡ false → r ≡ refused 14 → r ≡ written b x multipliers passes raise
      unfolding written judged
      not-bounded e q = pick_false _ _ (both-second (all_finite (length x) x) e) q

      not-finite : {r : Placed} → all_finite (length x) x ≡ false → r ≡ refused 14 → r ≡ written b x multipliers passes raise
      unfolding written judged
      not-finite e q = pick_false _ _ (both-first _ e) q

      pub out-of-range : {r : Placed} → all_in_range x ≡ false → r ≡ refused 14 → r ≡ written b x multipliers passes raise
      out-of-range e q =
          let o = one-off x e in
          ⊎_elim (λ f. not-finite (unfinite o.0 o.1 f) q)
          (λ f. not-bounded (bounded_far R times o.0 (let l = o.1 in omega arith) (rw (times_of-at x o.0 o.1) f)) q)
          (time-off (at x o.0) o.2)
        where
          unfinite : (i : ℕ) → i < length x → is_finite (at x i) ≡ false → all_finite (length x) x ≡ false
          unfinite i h f = go (all_finite (length x) x) refl
            where
              go : (t : Bool) → all_finite (length x) x ≡ t → all_finite (length x) x ≡ false
              go true a = absurd (true≢false (sym (finite-at (length x) i x a h) ∙ f))
              go false a = a

      pub is-answer : {r : Placed} → all_in_range x ≡ true → bounded b times ≡ true → r ≡ answered (answer_for b times prices passes)
          → r ≡ written b x multipliers passes raise
      unfolding written judged
      is-answer a e q =
          pick_true _ _ (both_yes (all-finite x a) e) (pick_true _ _ (gap-fits R (plan-and-prices e)) q)

      -- and no other way: an answer, within the bounds, or 14
      abbrev pub AnswerOr14 : Type 0
      AnswerOr14 =
          ((bounded b times ≡ true) × (written b x multipliers passes raise ≡ answered (answer_for b times prices passes)))
          ⊎ (written b x multipliers passes raise ≡ refused 14)

      pub written_by : AnswerOr14
      unfolding written judged
      written_by = go (both (all_finite (length x) x) (bounded b times)) refl
        where
          go : (t : Bool) → both (all_finite (length x) x) (bounded b times) ≡ t → AnswerOr14
          go true h =
              let e = (both_true _ _ h).1 in
              inl (e, sym (pick_true _ _ h (pick_true _ _ (gap-fits R (plan-and-prices e)) refl)))
          go false h = inr (sym (pick_false _ _ h refl))
