use Rattle.folds.specs.Kit.{◌≡◌, length, ap}
use Rattle.solution.specs.Solution.{refusal, answer, no_optimum, non_finite, singular}
use Rattle.iterate.specs.Laws.{passed-failed}
use Rattle.free_problem.specs.Laws.{parts}
use Rattle.free_step.specs.FreeStep.{step}
use Rattle.free_step.proofs.step.Goals as goal

pub to_minimum-requires : goal.to_minimum-requires
to_minimum-requires c = let p = c.requires in (p.0, p.1, p.2, p.3, p.4, p.5, p.6, p.7, p.10)

pub descend-requires : goal.descend-requires
descend-requires c = let p = c.requires in (p.1, p.2, p.4, p.5, p.8, p.9, p.10)

pub returns-in-Ok : goal.returns-in-Ok
unfolding step
returns-in-Ok c =
    let a = c.args in
    let g = parts (length a.solved.now) a.counts.m a.free a.q_free.now a.e_free.now in
    record {
      result_value = rw (c.in-Ok.is, g.kept_are, g.residuals_are) c.to_minimum.ensures.result_value;
      consistent = c.to_minimum.ensures.consistent;
    }

pub returns-in-Err-NoOptimum : goal.returns-in-Err-NoOptimum
unfolding step
returns-in-Err-NoOptimum c =
    let v = c.in-Err-NoOptimum in
    let r : answer c.args.verdict c.args.delta.now c.args.multipliers.now ≡ no_optimum = rw v.is (ap refusal (rw v.is at v.field-0-is)) in
    record {
      result_value = rw r c.descend.ensures.result_value;
      consistent = c.descend.ensures.consistent;
    }

pub returns-in-Err-NonFiniteCovariance : goal.returns-in-Err-NonFiniteCovariance
unfolding step
returns-in-Err-NonFiniteCovariance c =
    let v = c.in-Err-NonFiniteCovariance in
    let r : answer c.args.verdict c.args.delta.now c.args.multipliers.now ≡ non_finite = rw v.is (ap refusal (rw v.is at v.field-0-is)) in
    let e = c.ended.ensures in record {
      result_value = rw r (passed-failed _ _ c.ended.result e.0);
      consistent = rw e.1 c.requires.2;
    }

pub returns-in-Err-SingularCovariance : goal.returns-in-Err-SingularCovariance
unfolding step
returns-in-Err-SingularCovariance c =
    let v = c.in-Err-SingularCovariance in
    let r : answer c.args.verdict c.args.delta.now c.args.multipliers.now ≡ singular = rw v.is (ap refusal (rw v.is at v.field-0-is)) in
    let e = c.ended-in-Err-SingularCovariance.ensures in record {
      result_value = rw r (passed-failed _ _ c.ended-in-Err-SingularCovariance.result e.0);
      consistent = rw e.1 c.requires.2;
    }
