-- Laws of the definitions: the free variables, split at `originals`, are as the solve and the step ask, and what a function's calls give, put
-- together.
use Rattle.std.specs.Prelude.{◌≡◌, Bool, true, false, List, ℕ, ◌+◌, ◌-◌, ◌*◌, ◌≤◌, length, take, drop, Float}
use Rattle.std.proofs.Common.{◌∙◌, le_refl, arith, length-drop, length-take-le, take_all}
use Rattle.folds.specs.Fold.{pick}
use Rattle.folds.specs.Run.{Pass}
use Rattle.folds.specs.Position.{partition_point, split-within}
use Rattle.sizes.specs.Sizes as Sizes
use Rattle.variable_set.specs.Rising.{Rising}
use Rattle.variable_set.specs.Laws.{rising-chosen}
use Rattle.factoring.specs.Kept.{Kept, kept_of}
use Rattle.segments.specs.declared.Segments.{Segments}
use Rattle.segments.specs.declared.State.{State as SpotState}
use Rattle.free_list.specs.FreeList.{free_indices, slopes}
use Rattle.free_list.specs.Laws.{free-chosen, free-originals}
use Rattle.slack_rows.specs.Laws as SlackRows
use Rattle.iterate.specs.Problem.{problem, first_slack_column}
use Rattle.iterate.specs.Iterate.{Result}
use Rattle.iterate.specs.declared.Iterate.{Iterate}
use Rattle.freeing.specs.Freeing.{none_free, without_free}
use Rattle.freeing.specs.Laws.{none-free}
use Rattle.solution.specs.Solution.{answer}
use Rattle.free_problem.specs.FreeProblem.{Gathered, gather}
use Rattle.free_solve.specs.declared.Solved.{Solved}
use Rattle.free_solve.specs.FreeSolve.{solution_of, solve_free}
use Rattle.free_solve.specs.Laws.{left-answer, left-factoring, left-factor}
use Rattle.full_step.specs.FullStep.{Split}
use Rattle.free_step.specs.FreeStep.{step}
use Rattle.pass.specs.State.{State, state, beside}
use Rattle.pass.specs.Pass.{free_pass, pass}

-- ---- the split
lead_length : {solved : List ℕ} (originals : ℕ) (indices : List ℕ) → solved ≡ take (partition_point originals indices) indices →
    length solved ≡ partition_point originals indices
lead_length originals indices lead = rw lead (length-take-le _ indices (split-within originals indices))

pub lead_few : {solved : List ℕ} (originals : ℕ) (indices : List ℕ) → solved ≡ take (partition_point originals indices) indices →
    length solved ≤ length indices
lead_few originals indices lead = rw (lead_length originals indices lead) (split-within originals indices)

-- `&indices[k..]`, as the borrow checker tells it
pub rest-is : (k : ℕ) (indices : List ℕ) → take (length indices - k) (drop k indices) ≡ drop k indices
rest-is k indices = take_all (length indices - k) (drop k indices) (rw (length-drop k indices) (le_refl _))

module _ {indices solved : List ℕ} (originals n : ℕ) (state : List SpotState) (within : originals ≤ n) (free : indices ≡ free_indices n state)
    (lead : solved ≡ take (partition_point originals indices) indices) where
  pub split-rising : Rising originals solved
  split-rising = rw (lead, free, free-originals originals n state within, free-chosen originals state) (rising-chosen originals _)

  module _ (m : ℕ) (e : List Float) {slacks : List ℕ} (slacks_fit : n - originals ≤ m) (few : n ≤ Sizes.variables) (columns : m ≤ Sizes.columns)
      (entries : n * m ≤ length e) (rest : slacks ≡ drop (length solved) indices) where
    abbrev first : ℕ
    first = first_slack_column originals n m

    room : first + (n - originals) ≤ m
    room = omega arith

    pub split-free : Split originals n m e state indices solved slacks
    split-free =
        record {
          within = within;
          slacks_fit = slacks_fit;
          columns = columns;
          free = free;
          counted = rw (rest, length-drop) (omega (arith, lead_length originals indices lead, split-within originals indices));
          solved_are = rw (lead, free, free-chosen n state) (SlackRows.split-solved n m originals first room _ within e entries);
          slacks_are =
              rw (rest, lead_length originals indices lead, free, free-chosen n state)
              (SlackRows.split-rows n m originals first room _ within few (omega arith));
        }

-- ---- what the calls give
module _ (originals n m : ℕ) (q c e : List Float) (segments : List Segments) (fixed : List Bool) (q_amax linear : Float)
    (solved slacks : List ℕ) (i : Iterate) (f : Kept) (l : List Float) where
  module _ (b : List Float) where
    pub free-from : {x : Pass Iterate Result} {g : Gathered} {slope : List Float} (r : Solved) (delta multipliers l' : List Float) →
        g ≡ gather (problem originals n m q c e b) (take n i.board.x) solved slacks slope →
        slope ≡ slopes (length solved) (free_indices n i.board.state) segments i.board.state →
        solution_of r delta multipliers l' ≡ solve_free q n solved g f l →
        x ≡ step originals n m q c e segments fixed q_amax linear solved slacks g i (answer r.verdict delta multipliers) →
        beside (kept_of r.factoring) l' x ≡ free_pass (problem originals n m q c e b) segments fixed q_amax linear solved slacks i f l
    unfolding free_pass
    free-from r delta multipliers l' g p s h =
        rw (
          h,
          ← p,
          ← g,
          left-answer r delta multipliers l' _ s,
          left-factoring r delta multipliers l' _ s,
          left-factor r delta multipliers l' _ s,
        )

    module _ {indices : List ℕ} (free : indices ≡ free_indices n i.board.state)
        (lead : solved ≡ take (partition_point originals indices) indices) where
      pub pass_without : {x : Pass Iterate Result} → none_free solved ≡ true → x ≡ without_free originals n m segments fixed i →
          beside f l x ≡ pass (problem originals n m q c e b) segments fixed q_amax linear (state i f l)
      unfolding pass pick
      pass_without t h = rw (h, ← free, ← lead_length originals indices lead, ← none-free solved, t)

      pub pass_with : {x : Pass State Result} → none_free solved ≡ false → slacks ≡ drop (length solved) indices →
          x ≡ free_pass (problem originals n m q c e b) segments fixed q_amax linear solved slacks i f l →
          x ≡ pass (problem originals n m q c e b) segments fixed q_amax linear (state i f l)
      unfolding pass pick
      pass_with t s h = h ∙ rw (← free, ← lead, ← lead_length originals indices lead, ← none-free solved, t, s)
