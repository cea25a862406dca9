use Rattle.folds.specs.Kit.{◌≡◌, ◌+◌, ◌-◌, ◌<◌, ◌≤◌, refl, sym, ◌∙◌, arith, kit}
use Rattle.sizes.specs.Sizes as Sizes
use Rattle.iterate.specs.Problem.{problem}
use Rattle.iterate.specs.Iterate.{Consistent}
use Rattle.factoring.specs.Kept.{kept_of, Good}
use Rattle.factoring.specs.Laws.{good-new}
use Rattle.pass.specs.State.{state}
use Rattle.minimum.specs.Counted.{budget}
use Rattle.active.specs.Active.{passes}
use Rattle.active.proofs.Left.{Left, all-left, all-spent, again, ended, Same, same-room}
use Rattle.active.proofs.passes.Given as goal

abbrev pub invariant-loop-made : goal.invariant-loop-made
invariant-loop-made l = let p = problem l.counts.originals l.counts.n l.counts.m l.q l.c l.e l.b in
    (l.made ≤ l.made-end)
    × Same l.room l.q_free l.e_free l.gram l.l l.initial.room l.initial.q_free l.initial.e_free l.initial.gram l.initial.l
    × Consistent l.counts.n l.segments l.at
    × Good l.counts.originals l.factoring l.l
    × (Left p l.segments l.fixed l.magnitudes.q l.magnitudes.linear l.made (state l.at (kept_of l.factoring) l.l) ≡
    passes p l.segments l.fixed l.magnitudes.q l.magnitudes.linear l.initial.at l.initial.l)
