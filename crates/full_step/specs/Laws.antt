-- Laws of the list of the free variables: it has at most n, and the ends of their segments are as many as it has; split, it has at most as many as
-- the engine takes.
use Rattle.std.specs.Prelude.{◌≡◌, List, ℕ, ◌≤◌, length, Float}
use Rattle.std.proofs.Common.{ap, ◌∙◌, arith}
use Rattle.sizes.specs.Sizes as Sizes
use Rattle.segments.specs.declared.Segments.{Segments}
use Rattle.segments.specs.declared.State.{State}
use Rattle.free_list.specs.FreeList.{free_indices, Ends}
use Rattle.free_list.specs.Laws.{free-few, length-entries}
use Rattle.step_length.specs.StepLength.{Entries}
use Rattle.full_step.specs.FullStep.{Split}

module _ (n : ℕ) (state : List State) {l : List ℕ} (e : l ≡ free_indices n state) where
  pub listed_few : length l ≤ n
  listed_few = rw e (free-few n state)

  pub listed_entries : (segments : List Segments) (x_free direction : List Float) {lower upper : List Float} → Ends n segments state lower upper →
      length l ≤ length x_free → length l ≤ length direction → Entries (length l) x_free direction lower upper
  listed_entries segments x_free direction ends x d =
      record {
        x_holds = x;
        d_holds = d;
        lower_holds = omega (arith, ap length e, ap length ends.lower_is ∙ length-entries _ _ segments state _);
        upper_holds = omega (arith, ap length e, ap length ends.upper_is ∙ length-entries _ _ segments state _);
      }

-- of a split one
pub split-few : {originals n m : ℕ} {e : List Float} {state : List State} {indices solved slacks : List ℕ} →
    Split originals n m e state indices solved slacks → length indices ≤ Sizes.variables
split-few {n = n} {state = state} split = omega (arith, listed_few n state split.free, split.slacks_are.few)
