use Rattle.std.specs.Prelude.{Float}
use Rattle.std.proofs.Common.{length-take}
use Rattle.folds.specs.Kit.{◌≡◌, ◌≤◌, ◌∙◌, arith, length, rules, pick}
use native.Mathlib.Nat.{le_trans}
use lib.Seq.{length-take-le}
use Rattle.sizes.specs.Sizes as Sizes
use Rattle.iterate.specs.Laws.{passed-failed}
use Rattle.free_problem.specs.Laws.{parts}
use Rattle.free_step.specs.FreeStep.{descend}
use Rattle.free_step.proofs.descend.Goals as goal
use Rattle.free_step.proofs.descend.Goals.{Start}

pub returns-then-all_zero : goal.returns-then-all_zero
unfolding descend pick
returns-then-all_zero c =
    let a = c.args in
    let g = parts (length a.solved.now) a.counts.m a.free a.q_free.now a.e_free.now in
    let e = c.ended.ensures in record {
      result_value = passed-failed _ _ c.ended.result e.0 ∙ rw (g.linear_is, ← c.all_zero.ensures, c.if-all_zero.true);
      consistent = rw e.1 c.requires.1;
    }

pub descent_ray-ray-requires : goal.descent_ray-ray-requires
descent_ray-ray-requires c =
    let l = c.requires.3 in
    let e : length c.args.free.gradient ≡ Sizes.originals = search rules in (
      l.few,
      le_trans l.kept_few l.columns,
      omega (arith, length-take {A = Float}),
      omega (arith, l.few, length-take {A = Float}),
      omega (arith, length-take {A = Float}),
    )

pub on_ray-requires : goal.on_ray-requires
on_ray-requires c = let p = c.requires in (p.0, p.1, p.2, p.6)

kept-holds : (c : Start) → c.args.free.columns ≤ length c.args.free.kept
kept-holds c = let e : length c.args.free.kept ≡ Sizes.columns = search rules in omega (arith, c.requires.3.kept_few, c.requires.3.columns)

pub returns : goal.returns
unfolding descend pick
returns c =
    let a = c.args in
    let g = parts (length a.solved.now) a.counts.m a.free a.q_free.now a.e_free.now in record {
      result_value = rw (
        g.linear_is,
        ← c.all_zero.ensures,
        c.if-all_zero.false,
        g.kept_are,
        length-take-le _ _ (kept-holds (goal.at.returns c).Start),
        g.square_is,
        g.gradient_is,
        g.entries_are,
        ← c.descent_ray-ray.ensures,
      )
          c.on_ray.ensures.result_value;
      consistent = c.on_ray.ensures.consistent;
    }

pub overflow_mul-square : goal.overflow_mul-square
overflow_mul-square c = omega (arith, c.requires.4)

pub overflow_mul-entries : goal.overflow_mul-entries
overflow_mul-entries c = omega (arith, c.requires.5)
