-- Laws of the definitions.
use Rattle.std.specs.Prelude.{◌≡◌, List, ℕ, ◌+◌, ◌<◌, ◌≤◌, get_or, take, Float}
use Rattle.std.proofs.Math.Path.{refl}
use Rattle.std.proofs.Common.{sym, ◌∙◌}
use native.Mathlib.Omega.{arith}
use Rattle.std.proofs.Math.ListN.{length, set}
use Rattle.folds.specs.Fold.{fold_turn, tab, over}
use Rattle.folds.specs.Tab.{length-tab, get_d_tab, tab-same, part-tab, over_in, over-tab, length-over}
use Rattle.arith.specs.Float.{f0}
use Rattle.segments.specs.Segments.{IsFree, segments_at, state_at}
use Rattle.segments.specs.declared.Segments.{Segments}
use Rattle.segments.specs.declared.State.{State}
use Rattle.segments.specs.declared.State.TheVariants.{At, Free}
use Rattle.lent_segments.specs.Lent.{segment_of, segment_in, entries}
use Rattle.lent_segments.specs.declared.Segment.{Segment}

pub free_in : (t : State) → IsFree t → t ≡ Free (segment_of t)
unfolding segment_of
free_in (At p) h = absurd h
free_in (Free j) h = refl

-- ---- what is read of the listed variables' records
module _ (read : Segment → Float) (indices : List ℕ) (segments : List Segments) (state : List State) where
  abbrev entry : ℕ → Float
  entry t = let i = get_or indices t 0 in read (segment_in (segments_at segments i) (state_at state i))

  pub length-entries : (k : ℕ) → length (entries read k indices segments state) ≡ k
  unfolding entries
  length-entries k = length-tab k entry

  -- a shorter list is the start of a longer one
  pub taken-entries : (k count : ℕ) {r : List Float} (o : List Float) → k ≤ count → count ≤ length r →
      r ≡ over (entries read count indices segments state) o → take k r ≡ entries read k indices segments state
  unfolding entries
  taken-entries k count {r} o h l e =
      part-tab f0 0 k r (omega arith)
      ∙ tab-same k _ entry
      (λ i g.
      let z : i + 0 ≡ i = omega arith in
      let u : i < count = omega arith in
      let v : i < length (tab count entry) = rw (length-tab count entry) u in
      rw (z, e, over_in f0 (tab count entry) o i v, get_d_tab f0 count i entry u))

  -- written one by one over the start of y
  module _ (y : List Float) where
    abbrev at : ℕ → List Float
    at k = over (entries read k indices segments state) y

    pub read-none : y ≡ at 0
    unfolding entries over tab
    read-none = refl

    pub read_turn : (k : ℕ) → k < length y → set (at k) k (entry k) ≡ at (k + 1)
    unfolding entries
    read_turn k h =
        let before = over-tab k k entry y (omega arith) (omega arith) (omega arith) refl in
        over-tab (k + 1) (k + 1) entry y (omega arith) (omega arith) (omega arith) (fold_turn k (λ t l. set l t (entry t)) y (sym before))

    pub read-length : (k : ℕ) → k ≤ length y → length (at k) ≡ length y
    read-length k h = length-over _ y (rw (length-entries k) h)
