use Rattle.folds.specs.Kit.{sym, arith, rules}
use Rattle.folds.specs.Tab.{taken-over}
use native.Mathlib.Nat.{le_refl}
use lib.Seq.{length-take-le}
use Rattle.vector.specs.Laws.{length-filled}
use Rattle.starting.specs.Laws.{length-all_fixed, started_consistent}
use Rattle.in_units.specs.Laws.{units-from}
use Rattle.in_units.proofs.solve_piecewise_in_units.Goals as goal

pub slice_bounds-passes-end : goal.slice_bounds-passes-end
slice_bounds-passes-end c = let v = c.requires.0.variables in sym (length-take-le _ _ (omega arith))

pub passes-requires : goal.passes-requires
passes-requires c =
    let s = c.requires in
    let v = s.0.variables in (
      s.0,
      s.1,
      rw c.started-iterate.ensures (started_consistent _ _ _ s.1),
      length-take-le _ _ (omega arith),
      s.3,
      rw (s.4, length-filled) (le_refl _),
    )

pub returns : goal.returns
returns c =
    units-from _ _ _ _ _ _ _ _ _ (taken-over _ _ (length-all_fixed _ _) c.all_fixed-fixed.ensures)
    c.magnitudes-magnitudes.ensures.q_value c.magnitudes-magnitudes.ensures.linear_value c.started-iterate.ensures c.requires.4 c.passes.ensures

pub slice_bounds-fixed-end : goal.slice_bounds-fixed-end
slice_bounds-fixed-end c = let v = c.requires.0.variables in omega arith
