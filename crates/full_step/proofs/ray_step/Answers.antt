use Rattle.folds.specs.Kit.{sym, ◌∙◌, length}
use Rattle.step_length.specs.Laws.{ratio-below}
use Rattle.iterate.specs.Laws.{passed-failed}
use Rattle.full_step.specs.FullStep.{at_ratio, ray_step}
use Rattle.full_step.proofs.ray_step.Goals as goal

pub returns-in_default : goal.returns-in_default
unfolding ray_step at_ratio
returns-in_default c =
    let e = c.ended.ensures in record {
      leaves = λ n m. passed-failed n m c.ended.result e.0 ∙ rw (← c.ratio_test-hit.ensures, c.in_default.is);
      keeps = λ n below placed. rw e.1 (record { placed = placed });
    }

pub blocked_pass-requires : goal.blocked_pass-requires
blocked_pass-requires c =
    let a = c.args in
    let v = c.in-Some in (
      c.requires.0,
      c.requires.1,
      ratio-below (length a.indices.now) a.x_free.now a.direction.now a.lower.now a.upper.now v.step v.k
          v.side (sym v.is ∙ c.ratio_test-hit.ensures),
    )

pub returns : goal.returns
unfolding ray_step at_ratio
returns c =
    record {
      leaves = λ n m. rw (← c.ratio_test-hit.ensures, c.in-Some.is) (c.blocked_pass.ensures.leaves n m);
      keeps = c.blocked_pass.ensures.keeps;
    }
