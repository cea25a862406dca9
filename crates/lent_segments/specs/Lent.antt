-- qp.rs, `State::Free(j) => (&segments[i], j)`: what is read of a free variable's record, and of each one's in a list.
use Rattle.std.specs.Prelude.{ℕ, ◌+◌, ◌<◌, List, length, get_or, Float}
use Rattle.folds.specs.Fold.{tab}
use Rattle.sizes.specs.Sizes as Sizes
use Rattle.arith.specs.Float.{at}
use Rattle.segments.specs.Segments.{Cut, IsFree, Placed, segments_at, state_at}
use Rattle.segments.specs.declared.Segments.{Segments}
use Rattle.segments.specs.declared.State.{State}
use Rattle.segments.specs.declared.State.TheVariants.{At, Free}
use Rattle.lent_segments.specs.declared.Segment.{Segment}

-- free in one of the record's segments
pub record Inside (s : Segments) (state : State) : Type 0 where
  pub cut : Cut s
  pub free : IsFree state
  pub placed : Placed s state

-- `State::Free(j) => j`; no other state is asked
unfoldable pub segment_of : State → ℕ
segment_of (At p) = p
segment_of (Free j) = j

-- `|(s, j)| s.points[*j]`, `|(s, j)| s.points[j + 1]`, `|(s, j)| s.slopes[*j]`
unfoldable pub segment_in : Segments → State → Segment
segment_in s state =
    let j = segment_of state in
    record { lower = at s.points j; upper = at s.points (j + 1); slope = at s.slopes j }

-- each listed variable is one of the engine's, and free in one of its segments
pub record Listed (indices : List ℕ) (segments : List Segments) (state : List State) : Type 0 where
  pub below : (t : ℕ) → t < length indices → get_or indices t 0 < Sizes.variables
  pub inside : (t : ℕ) → t < length indices → Inside (segments_at segments (get_or indices t 0)) (state_at state (get_or indices t 0))

-- `free.iter().map(..)`, of the first k listed
unfoldable pub entries : (Segment → Float) → (k : ℕ) (indices : List ℕ) (segments : List Segments) (state : List State) → List Float
entries read k indices segments state =
    tab k (λ t. let i = get_or indices t 0 in read (segment_in (segments_at segments i) (state_at state i)))

-- `free.iter().map(|(s, j)| s.points[*j]).collect()`
abbrev pub lower_ends : (k : ℕ) (indices : List ℕ) (segments : List Segments) (state : List State) → List Float
lower_ends = entries (λ s. s.lower)

-- `free.iter().map(|(s, j)| s.points[j + 1]).collect()`
abbrev pub upper_ends : (k : ℕ) (indices : List ℕ) (segments : List Segments) (state : List State) → List Float
upper_ends = entries (λ s. s.upper)

-- `free.iter().map(|(s, j)| s.slopes[*j]).take(solved.len())`
abbrev pub slopes : (k : ℕ) (indices : List ℕ) (segments : List Segments) (state : List State) → List Float
slopes = entries (λ s. s.slope)
