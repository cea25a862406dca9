-- What the code's arrays hold of an engine's answer: the block is b, the weights and multipliers are the first of x and μ.
use Rattle.std.specs.Prelude.{◌≡◌, Bool, true, false, Some, None, List, ℕ, ◌+◌, ◌≤◌, length, take, ℤ, Float, Ok, Err, refl}
use Rattle.std.proofs.Common.{sym, ◌∙◌, ap, ap₂, subst₂, length-take-le}
use Rattle.block.specs.Keeps.{bounded}
use Rattle.block.specs.Ranges.{Ranged, Timed}
use Rattle.format.specs.declared.Block.{Block}
use Rattle.format.specs.declared.Refusal.TheVariants.{NotConverged}
use Rattle.format.specs.Structs.{block_of, Sound}
use Rattle.format.specs.Entries.{words-length}
use Rattle.exact.specs.Planned.{Planned}
use Rattle.gap.specs.Prices.{price_count}
use Rattle.gap.specs.Input.{PlanAndPrices, same-count}
use Rattle.rounding.specs.Lists.{times_of, prices_of, TimesOf, PricesOf}
use Rattle.rounding.specs.Laws.{times-timed}
use Rattle.placement.specs.Placed.{Placed, answered, refused, answer_for, written}
use Rattle.placement.specs.Laws.{plan-and-prices, out-of-range, not-bounded, is-answer}
use Rattle.placement.specs.Held.{answer_in, Holds}
use Rattle.placement.specs.declared.Placement.{Placement}

-- what is written of the engine's answer, as the code holds it
abbrev pub written_of : Block → (x μ : List Float) → (passes : ℕ) → (raise : Float) → Placed
written_of b x μ passes raise = written (block_of b) (take b.words x) (take (b.anchors + b.spans) μ) passes raise

module _ {b : Block} (S : Sound b) (R : Ranged (block_of b)) (x μ : List Float) (x-room : b.words ≤ length x)
    (μ-room : b.anchors + b.spans ≤ length μ) where
  abbrev weights : List Float
  weights = take b.words x

  abbrev multipliers : List Float
  multipliers = take (b.anchors + b.spans) μ

  x_long : length weights ≡ length (block_of b).words
  x_long = length-take-le _ _ x-room ∙ sym (words-length S)

  μ_long : length multipliers ≡ price_count (block_of b)
  μ_long = length-take-le _ _ μ-room ∙ sym (same-count S)

  -- 14, in the two ways of the code
  pub times-off : (passes : ℕ) (raise : Float) → TimesOf weights None → Holds (written_of b x μ passes raise) b (Err NotConverged)
  times-off passes raise e = record { is = out-of-range R _ _ raise x_long μ_long passes e refl; of_block = tt }

  module _ (times : List ℤ) (T : TimesOf weights (Some times)) where
    times-are : take b.words times ≡ times_of weights
    times-are = ap (λ (k : ℕ). take k times) (sym (length-take-le _ _ x-room)) ∙ T.1

    pub times-planned : length (take b.words times) ≡ b.words → Planned b (take b.words times)
    times-planned l =
        record {
          sound = S;
          ranged = R;
          each = l;
          timed =
              subst₂ Timed (length-take-le _ _ x-room ∙ sym l) (sym times-are) (times-timed weights T.0);
        }

    judged-is : {r : Bool} → bounded (block_of b) (take b.words times) ≡ r → bounded (block_of b) (times_of weights) ≡ r
    judged-is e = ap (bounded (block_of b)) (sym times-are) ∙ e

    pub times_break : (passes : ℕ) (raise : Float) → bounded (block_of b) (take b.words times) ≡ false
        → Holds (written_of b x μ passes raise) b (Err NotConverged)
    times_break passes raise e = record { is = not-bounded R _ _ raise x_long μ_long passes (judged-is e) refl; of_block = tt }

    module _ (e : bounded (block_of b) (take b.words times) ≡ true) {raise : Float} {ps : List ℤ} (P : PricesOf multipliers raise ps) where
      prices-are : take (b.anchors + b.spans + 1) ps ≡ prices_of multipliers raise
      prices-are = ap (λ (k : ℕ). take (k + 1) ps) (sym (length-take-le _ _ μ-room)) ∙ P.are

      pub times_priced : PlanAndPrices (block_of b) (take b.words times) (take (b.anchors + b.spans + 1) ps)
      times_priced =
          subst₂ (PlanAndPrices (block_of b)) (sym times-are) (sym prices-are) (plan-and-prices R _ _ raise x_long μ_long (judged-is e))

      pub times-answer : {p : Placement} {passes : ℕ}
          → answer_in p ≡ answer_for (block_of b) (take b.words times) (take (b.anchors + b.spans + 1) ps) passes → p.block ≡ b
          → Holds (written_of b x μ passes raise) b (Ok p)
      times-answer {p} {passes} h k =
          record {
            is =
                is-answer R _ _ raise x_long μ_long passes T.0 (judged-is e)
                (ap answered h ∙ ap₂ (λ (y z : List ℤ). answered (answer_for (block_of b) y z passes)) times-are prices-are);
            of_block = k;
          }
