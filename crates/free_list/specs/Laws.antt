-- Laws of the definitions: the list of the free variables rises, below n; it starts with the free originals, and the rest are from `originals` on.
use Rattle.std.specs.Prelude.{◌≡◌, true, List, length, get_or, take, Float}
use Rattle.std.proofs.Math.Path.{refl}
use Rattle.std.proofs.Math.Bool.{Bool}
use Prim.Native.Nat.{ℕ, ◌<◌, ◌≤◌}
use Rattle.std.proofs.Common.{arith}
use Rattle.folds.specs.Fold.{over, false_true}
use Rattle.folds.specs.Tab.{taken-over}
use Rattle.folds.specs.Chosen.{chosen, length-chosen, chosen-below, chosen-passes, chosen-rises, chosen_lead, chosen-from}
use Rattle.folds.specs.Position.{partition_point, split-chosen}
use Rattle.sizes.specs.Sizes as Sizes
use Rattle.segments.specs.Segments.{state_at, IsFree, AllCut, AllPlaced}
use Rattle.segments.specs.declared.Segments.{Segments}
use Rattle.segments.specs.declared.State.{State}
use Rattle.segments.specs.declared.State.TheVariants.{At, Free}
pub use Rattle.lent_segments.specs.Laws.{length-entries, taken-entries}
use Rattle.free_list.specs.FreeList.{is_free, free_indices, Listed, lower_ends, upper_ends, Ends}

-- ---- the free variables: below n, and rising
module _ (n : ℕ) (state : List State) where
  pub free-chosen : free_indices n state ≡ chosen n (λ i. is_free (state_at state i))
  unfolding free_indices
  free-chosen = refl

  pub free-few : length (free_indices n state) ≤ n
  unfolding free_indices
  free-few = length-chosen n (λ i. is_free (state_at state i))

  pub free-below : (k : ℕ) → k < length (free_indices n state) → get_or (free_indices n state) k 0 < n
  unfolding free_indices
  free-below k h = chosen-below n (λ i. is_free (state_at state i)) k h

  pub free-rising : (i k : ℕ) → i < k → k < length (free_indices n state) → get_or (free_indices n state) i 0 < get_or (free_indices n state) k 0
  unfolding free_indices
  free-rising i k h l = chosen-rises n (λ i. is_free (state_at state i)) i k h l

-- ---- `split_slacks`: the free originals come first, and the rest are slacks
module _ (originals n : ℕ) (state : List State) (few : originals ≤ n) where
  pub free-originals : take (partition_point originals (free_indices n state)) (free_indices n state) ≡ free_indices originals state
  unfolding free_indices
  free-originals =
      let p : ℕ → Bool = λ i. is_free (state_at state i) in
      rw (split-chosen originals n p few) (chosen_lead originals n p few)

  pub free-slacks : (t : ℕ) → partition_point originals (free_indices n state) ≤ t → t < length (free_indices n state) →
      (originals ≤ get_or (free_indices n state) t 0) × (get_or (free_indices n state) t 0 < n)
  unfolding free_indices
  free-slacks t h l =
      let p : ℕ → Bool = λ i. is_free (state_at state i) in
      (chosen-from originals n p t few (rw (split-chosen originals n p few) at h) l, chosen-below n p t l)

-- ---- each is free
is-free : (t : State) → is_free t ≡ true → IsFree t
unfolding is_free
is-free (At p) e = false_true e
is-free (Free j) e = tt

-- of a list that is theirs
module _ (n : ℕ) (state : List State) {l : List ℕ} (e : l ≡ free_indices n state) where
  pub listed_below : (k : ℕ) → k < length l → get_or l k 0 < n
  listed_below k h = rw e (free-below n state k (rw e at h))

  pub listed_free : (k : ℕ) → k < length l → IsFree (state_at state (get_or l k 0))
  unfolding free_indices
  listed_free k h = rw e (is-free _ (chosen-passes n (λ i. is_free (state_at state i)) k (rw e at h)))

  pub listed : (segments : List Segments) → n ≤ Sizes.variables → AllCut n segments → AllPlaced n segments state → Listed l segments state
  listed segments few cut placed =
      record {
        below = λ k h. omega (arith, listed_below k h);
        inside = λ k h. record { cut = cut _ (listed_below k h); free = listed_free k h; placed = placed _ (listed_below k h) };
      }

-- ---- the lists made of them: what is written over the start of two lists, for the free variables listed
pub ends-taken : (n : ℕ) (segments : List Segments) (state : List State) {l : List ℕ} {lower upper : List Float} (o p : List Float) →
    l ≡ free_indices n state → lower ≡ over (lower_ends (length l) l segments state) o → upper ≡ over (upper_ends (length l) l segments state) p →
    Ends n segments state (take (length l) lower) (take (length l) upper)
ends-taken n segments state {l} o p e f g =
    record {
      lower_is = rw (← e) (taken-over _ o (length-entries (λ s. s.lower) l segments state _) f);
      upper_is = rw (← e) (taken-over _ p (length-entries (λ s. s.upper) l segments state _) g);
    }
