use Rattle.folds.specs.Kit.{ℕ, ◌≡◌, ◌≤◌, sym, arith, length}
use Rattle.folds.specs.Tab.{taken-over}
use Rattle.std.proofs.Common.{le_refl}
use Rattle.variable_set.specs.Laws.{listed_few}
use Rattle.probe.specs.Hooks.{all_but, but_rises}
use Rattle.probe.proofs.changed.Goals as goal

few : (n i k : ℕ) → k ≡ length (all_but n i) → k ≤ n
few n i k e = rw e (listed_few n (all_but n i) (but_rises n i))

pub slice_bounds-held-end : goal.slice_bounds-held-end
slice_bounds-held-end c = omega (arith, few _ _ _ c.all_but-k.ensures.value, c.requires.0)

pub slice_bounds-indices-end : goal.slice_bounds-indices-end
slice_bounds-indices-end c = omega (arith, few _ _ _ c.all_but-m.ensures.value, c.requires.0)

-- the parts of the arrays that are lent are the lists
pub slice_bounds-updated-end : goal.slice_bounds-updated-end
slice_bounds-updated-end c =
    rw (taken-over _ _ (sym c.all_but-k.ensures.value) c.all_but-k.ensures.list_after) c.all_but-k.ensures.value

pub slice_bounds-updated-end-2 : goal.slice_bounds-updated-end-2
slice_bounds-updated-end-2 c =
    rw (taken-over _ _ (sym c.all_but-m.ensures.value) c.all_but-m.ensures.list_after) c.all_but-m.ensures.value

pub updated-requires : goal.updated-requires
updated-requires c =
    let p = c.requires in (
      record { few = p.0; within = le_refl _; q_holds = omega (arith, p.3) },
      record { few = p.0; l_holds = omega (arith, p.4); room_holds = omega (arith, p.5) },
      rw (taken-over _ _ (sym c.all_but-k.ensures.value) c.all_but-k.ensures.list_after) (but_rises _ _),
      rw (taken-over _ _ (sym c.all_but-m.ensures.value) c.all_but-m.ensures.list_after) (but_rises _ _),
    )

pub returns : goal.returns
returns c =
    rw (
      ← taken-over _ _ (sym c.all_but-k.ensures.value) c.all_but-k.ensures.list_after,
      ← taken-over _ _ (sym c.all_but-m.ensures.value) c.all_but-m.ensures.list_after,
    )
    c.updated.ensures
