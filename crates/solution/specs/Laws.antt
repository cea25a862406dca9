-- Laws of the definitions: how an answer is rescaled.
use Rattle.std.specs.Prelude.{◌≡◌, refl, List, ℕ, length, Float}
use Rattle.folds.specs.Tab.{length-tab}
use Rattle.solution.specs.declared.KktError.{KktError}
use Rattle.solution.specs.declared.KktError.TheVariants.{NoOptimum, NonFiniteCovariance, SingularCovariance}
use Rattle.solution.specs.Solution.{optimum, refusal, rescaled_multipliers, rescaled}

pub length-rescaled_multipliers : (m : ℕ) (multipliers : List Float) (scale : Float) (columns : List Float) →
    length (rescaled_multipliers m multipliers scale columns) ≡ m
unfolding rescaled_multipliers
length-rescaled_multipliers m multipliers scale columns = length-tab m _

-- what is refused stays refused
pub rescaled-refusal : (m : ℕ) (scale : Float) (columns : List Float) (e : KktError) → refusal e ≡ rescaled m scale columns (refusal e)
unfolding rescaled
rescaled-refusal m scale columns NoOptimum = refl
rescaled-refusal m scale columns NonFiniteCovariance = refl
rescaled-refusal m scale columns SingularCovariance = refl

pub rescaled-optimum : (m : ℕ) (scale : Float) (columns x multipliers : List Float) →
    optimum x (rescaled_multipliers m multipliers scale columns) ≡ rescaled m scale columns (optimum x multipliers)
unfolding rescaled
rescaled-optimum m scale columns x multipliers = refl
