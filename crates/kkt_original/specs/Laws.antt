-- Laws of the definitions: what is refused passes.
use Rattle.std.specs.Prelude.{◌≡◌, refl, List, ℕ, Float}
use Rattle.solution.specs.declared.KktError.{KktError}
use Rattle.solution.specs.declared.KktError.TheVariants.{NoOptimum, NonFiniteCovariance, SingularCovariance}
use Rattle.solution.specs.Solution.{refusal}
use Rattle.kkt_original.specs.Original.{original}

pub original-refusal : (n m : ℕ) (e b scales columns : List Float) (r : KktError) → refusal r ≡ original n m e b scales columns (refusal r)
unfolding original
original-refusal n m e b scales columns NoOptimum = refl
original-refusal n m e b scales columns NonFiniteCovariance = refl
original-refusal n m e b scales columns SingularCovariance = refl
