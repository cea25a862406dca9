use Rattle.std.specs.Prelude.{ℕ, List, Float}
use Rattle.folds.specs.Kit.{◌≡◌, refl, sym}
use Rattle.std.proofs.Common.{subst}
use Rattle.solution.specs.declared.KktError.{KktError}
use Rattle.solution.specs.Solution.{refusal}
use Rattle.outputs.specs.Kkt.{Written, engine, number, x_or, multipliers_or}
use Rattle.outputs.proofs.write_solution.Goals as goal

refused : {e d : KktError} {r : ℕ} {x l : List Float} → e ≡ d → Written (engine (refusal d)) r x x l l → Written (engine (refusal e)) r x x l l
refused {r} {x} {l} h w = subst (λ (v : KktError). Written (engine (refusal v)) r x x l l) (sym h) w

pub returns-in-Ok : goal.returns-in-Ok
unfolding number x_or multipliers_or
returns-in-Ok c =
    rw c.in-Ok.is (record { numbered = refl; x_written = c.copy_out.ensures.0; multipliers_written = c.copy_out.ensures.1 })

pub returns-in-Err-NoOptimum : goal.returns-in-Err-NoOptimum
unfolding number x_or multipliers_or
returns-in-Err-NoOptimum c =
    rw c.in-Err-NoOptimum.is
    (refused (rw c.in-Err-NoOptimum.is at c.in-Err-NoOptimum.field-0-is) (record { numbered = refl; x_written = refl; multipliers_written = refl }))

pub returns-in-Err-NonFiniteCovariance : goal.returns-in-Err-NonFiniteCovariance
unfolding number x_or multipliers_or
returns-in-Err-NonFiniteCovariance c =
    rw c.in-Err-NonFiniteCovariance.is
    (refused (rw c.in-Err-NonFiniteCovariance.is at c.in-Err-NonFiniteCovariance.field-0-is) (record { numbered = refl; x_written = refl; multipliers_written = refl }))

pub returns-in-Err-SingularCovariance : goal.returns-in-Err-SingularCovariance
unfolding number x_or multipliers_or
returns-in-Err-SingularCovariance c =
    rw c.in-Err-SingularCovariance.is
    (refused (rw c.in-Err-SingularCovariance.is at c.in-Err-SingularCovariance.field-0-is) (record { numbered = refl; x_written = refl; multipliers_written = refl }))
