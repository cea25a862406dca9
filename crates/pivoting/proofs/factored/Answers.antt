use Rattle.folds.specs.Kit.{◌≡◌, arith, length, rules, ◌∙◌}
use Rattle.sizes.specs.Sizes as Sizes
use Rattle.vector.specs.Laws.{over-copy, over-filled}
use Rattle.pivoting.specs.Laws.{state-none, factored-from, factored-taken}
use Rattle.pivoting.proofs.factored.Goals as goal
use Rattle.pivoting.proofs.factored.Goals.{After-pivoted}

pub pivoted-requires : goal.pivoted-requires
pivoted-requires c =
    let r = c.requires in (
      omega (arith, r.1, c.copy.auto),
      omega (arith, r.2, c.fill.auto),
      omega (arith, r.3, c.fill-2.auto),
      r.4,
      r.5,
      r.6,
      rw c.no_pivots.ensures,
    )

columns : (c : After-pivoted) → length c.pivoted.result.column ≡ Sizes.columns
columns c = search rules

pub returns : goal.returns
returns c =
    let b6 = (goal.at.returns c).After-pivoted in
    let a = c.args in
    let r = c.requires in
    let e = factored-from a.n a.m a.p a.e.now c.pivoted.ensures.result_after c.tolerance.ensures
    (state-none _ Sizes.columns _ _ _ _ r.5 c.no_pivots.ensures)
    (c.copy.ensures ∙ over-copy _ _ _ r.1) (c.fill.ensures ∙ over-filled _ _ _ r.2) (c.fill-2.ensures ∙ over-filled _ _ _ r.3) in
    record {
      result_after = e;
      taken = factored-taken _ _ _ _ _ _ _ _ e c.pivoted.ensures.rank_le_p (omega (arith, c.pivoted.ensures.rank_le_p, r.5, r.6, columns b6));
    }
