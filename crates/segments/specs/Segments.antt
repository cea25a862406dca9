-- qp.rs, `Segments`: one variable's range, cut at its kink when that lies strictly inside.
use Rattle.std.specs.Prelude.{ℕ, ◌-◌, ◌≤◌, ◌<◌, Bool, List, [], ◌∷◌, get_or, Float}
use Rattle.std.specs.Float.Ieee.{lt, le}
use Rattle.folds.specs.Fold.{pick, both}
use Rattle.arith.specs.Float.{fneg, f0}
use Rattle.segments.specs.declared.Segments.{Segments}
use Rattle.segments.specs.declared.State.{State}
use Rattle.segments.specs.declared.State.TheVariants.{At, Free}

-- `slope > 0.0 && lower < at && at < upper`
unfoldable pub cuts : (lower upper at slope : Float) → Bool
cuts lower upper at slope = both (lt f0 slope) (both (lt lower at) (lt at upper))

-- `let side = if at <= lower { slope } else { -slope }`, and 0 where the slope isn't above 0
unfoldable pub side : (lower at slope : Float) → Float
side lower at slope = pick (lt f0 slope) (pick (le at lower) slope (fneg slope)) f0

-- `Segments::new`: the points are the first `count`, the slopes one fewer; what stands past them is 0
unfoldable pub new : (lower upper at slope : Float) → Segments
new lower upper at slope =
    pick (cuts lower upper at slope)
    (record { points = lower ∷ at ∷ upper ∷ []; slopes = fneg slope ∷ slope ∷ []; count = 3 })
    (record { points = lower ∷ upper ∷ f0 ∷ []; slopes = side lower at slope ∷ f0 ∷ []; count = 2 })

-- `self.points.len() - 1`
abbrev pub last : Segments → ℕ
last s = s.count - 1

-- two points or three
pub record Cut (s : Segments) : Type 0 where
  pub two : 2 ≤ s.count
  pub three : s.count ≤ 3

abbrev pub IsFree : State → Type 0
IsFree (At p) = ⊥
IsFree (Free j) = Unit {0}

-- held at one of the points, or free between two of them
abbrev pub Placed : Segments → State → Type 0
Placed s (At p) = p ≤ last s
Placed s (Free j) = j < last s

-- one of a list of them; past the end it has no point
abbrev pub segments_at : List Segments → (i : ℕ) → Segments
segments_at l i = get_or l i (record { points = []; slopes = []; count = 0 })

abbrev pub state_at : List State → (i : ℕ) → State
state_at l i = get_or l i (At 0)

abbrev pub AllCut : (n : ℕ) → List Segments → Type 0
AllCut n segments = (i : ℕ) → i < n → Cut (segments_at segments i)

abbrev pub AllPlaced : (n : ℕ) → List Segments → List State → Type 0
AllPlaced n segments state = (i : ℕ) → i < n → Placed (segments_at segments i) (state_at state i)
