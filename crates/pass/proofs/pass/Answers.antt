use Rattle.folds.specs.Kit.{◌≡◌, ◌≤◌, ◌∙◌, sym, length}
use native.Mathlib.Nat.{le_of_eq, le_trans}
use lib.ListN.{take}
use lib.Seq.{length-take-le}
use Rattle.folds.specs.Tab.{taken-over}
use Rattle.free_list.specs.FreeList.{free_indices}
use Rattle.free_list.specs.Laws.{free-few}
use Rattle.pass.specs.State.{made_beside}
use Rattle.pass.specs.Laws.{lead_few, rest-is, split-rising, split-free, pass_without, pass_with}
use Rattle.pass.proofs.pass.Goals as goal
use Rattle.pass.proofs.pass.Goals.{After-free_indices-count}

-- ---- the list of the free variables
fits : (c : After-free_indices-count) → c.free_indices-count.result ≤ length c.free_indices-count.new.indices
fits c = rw (c.free_indices-count.auto.indices, c.free_indices-count.ensures.0) (le_trans (free-few _ _) c.requires.0.variables)

free : (c : After-free_indices-count) →
    take c.free_indices-count.result c.free_indices-count.new.indices ≡ free_indices c.args.counts.n c.args.iterate.board.state
free c = let e = c.free_indices-count.ensures in taken-over _ _ (sym e.0) e.1

listed : (c : After-free_indices-count) →
    c.free_indices-count.result ≡ length (take c.free_indices-count.result c.free_indices-count.new.indices)
listed c = sym (length-take-le _ _ (fits c))

-- ---- the calls
pub returns-then-none_free : goal.returns-then-none_free
returns-then-none_free c =
    let i = (goal.at.returns-then-none_free c).After-free_indices-count in
    let p = c.requires in
    let e = c.without_free-passed.ensures in record {
      l_after = made_beside _ _ _ _
          ∙ pass_without _ _ _ _ _ _ _ _ _ _ _ c.split_slacks-solved.result.now _ _ _ c.args.b.now (free i) c.split_slacks-solved.ensures
          (sym c.none_free.ensures ∙ c.if-none_free.true) (e.without_free _ p.0.columns);
      consistent = (e.consistent, p.5);
    }

pub free_pass-requires : goal.free_pass-requires
free_pass-requires c =
    let i = (goal.at.free_pass-requires c).After-free_indices-count in
    let p = c.requires in
    let l = c.split_slacks-solved.ensures in (
      p.0,
      p.1,
      p.2,
      le_of_eq (sym p.3),
      split-free _ _ _ p.0.within (free i) l _ _ p.0.slacks p.0.variables p.0.columns p.0.e_holds
          (rest-is (length c.split_slacks-solved.result.now) _),
      split-rising _ _ _ p.0.within (free i) l,
      p.4,
      p.5,
      p.6,
    )

pub returns : goal.returns
returns c =
    let i = (goal.at.returns c).After-free_indices-count in
    let e = c.free_pass.ensures in record {
      l_after = pass_with _ _ _ _ _ _ _ _ _ _ _ _ _ _ _ _ (free i) c.split_slacks-solved.ensures (sym c.none_free.ensures ∙ c.if-none_free.false)
          (rest-is (length c.split_slacks-solved.result.now) _) e.l_after;
      consistent = e.consistent;
    }

pub slice_bounds-indices-end : goal.slice_bounds-indices-end
slice_bounds-indices-end c = fits (goal.at.slice_bounds-indices-end c).After-free_indices-count

pub slice_bounds-indices-end-2 : goal.slice_bounds-indices-end-2
slice_bounds-indices-end-2 c = listed (goal.at.slice_bounds-indices-end-2 c).After-free_indices-count

pub slice_bounds-free_pass-count : goal.slice_bounds-free_pass-count
slice_bounds-free_pass-count c = lead_few _ _ c.split_slacks-solved.ensures

pub slice_bounds-free_pass-start : goal.slice_bounds-free_pass-start
slice_bounds-free_pass-start c = lead_few _ _ c.split_slacks-solved.ensures
