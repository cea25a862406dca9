use Rattle.folds.specs.Kit.{◌≡◌, ℕ, sym, ◌∙◌, arith}
use Rattle.std.proofs.lemmas.Result.{err_from_is_err_and}
use Rattle.format.specs.Laws.{number-nonzero}
use Rattle.plan_check.specs.Check.{earlier, refusal_for}
use Rattle.plan_check.specs.Laws.{earlier-none, earlier-first, counted, refusal-is}
use Rattle.plan_check.proofs.check_plan.Goals as goal

-- the first refusal, or the second, comes before the prices'
module _ {r : ℕ} (a b d : ℕ) where
  first : (r ≡ 0 → ⊥) → r ≡ a → r ≡ earlier (earlier a b) d
  first h e =
      let f = earlier-first a b (λ z. h (e ∙ z)) e in
      earlier-first (earlier a b) d (λ z. h (f ∙ z)) f

  second : (r ≡ 0 → ⊥) → a ≡ 0 → r ≡ b → r ≡ earlier (earlier a b) d
  second h z e =
      let f = earlier-none a b z e in
      earlier-first (earlier a b) d (λ z. h (f ∙ z)) f

pub returns-in_err-check_counts : goal.returns-in_err-check_counts
unfolding refusal_for
returns-in_err-check_counts c =
    let p = err_from_is_err_and c.from_residual.result c.from_residual.ensures.1 in
    rw (p.1, p.2) (first _ _ _ (number-nonzero _) c.in_err-check_counts.ensures ∙ refusal-is c.requires _ _)

pub returns-in_err-check_times : goal.returns-in_err-check_times
unfolding refusal_for
returns-in_err-check_times c =
    let p = err_from_is_err_and c.from_residual-in_err-check_times.result c.from_residual-in_err-check_times.ensures.1 in
    rw (p.1, p.2) (second _ _ _ (number-nonzero _) (sym c.in_ok-check_counts.ensures) c.in_err-check_times.ensures ∙ refusal-is c.requires _ _)

pub check_prices-requires : goal.check_prices-requires
check_prices-requires c = omega (arith, (counted _ _ _ _ (sym c.in_ok-check_counts.ensures)).1)

pub returns : goal.returns
unfolding refusal_for
returns c =
    earlier-none _ _ (sym (earlier-none _ _ (sym c.in_ok-check_counts.ensures) c.in_ok-check_times.ensures)) c.check_prices.ensures
    ∙ refusal-is c.requires _ _
