use Rattle.folds.specs.Kit.{◌≡◌, ℕ, set, get_or, fold}
use mathlib.Core.List.{List}
use lib.Ieee.{Float}
use Rattle.segments.specs.Segments.{segments_at, state_at}
use Rattle.segments.specs.declared.Segments.{Segments}
use Rattle.segments.specs.declared.State.{State}
use Rattle.lent_segments.specs.Lent.{segment_in}
use Rattle.lent_segments.specs.declared.Segment.{Segment}
use Rattle.lent_segments.proofs.ends_and_slopes.Given as goal

-- what is read of the listed variable at t
abbrev pub entry : (Segment → Float) → List ℕ → List Segments → List State → ℕ → Float
entry read indices segments state t = let i = get_or indices t 0 in read (segment_in (segments_at segments i) (state_at state i))

-- a slice after t turns
abbrev pub filled : (Segment → Float) → List ℕ → List Segments → List State → ℕ → List Float → List Float
filled read indices segments state t = fold t (λ k ys. set ys k (entry read indices segments state k))

abbrev pub invariant-loop-t : goal.invariant-loop-t
invariant-loop-t l =
    (l.lower ≡ filled (λ s. s.lower) l.fn.indices l.segments l.state l.t l.initial.lower)
    × (l.upper ≡ filled (λ s. s.upper) l.fn.indices l.segments l.state l.t l.initial.upper)
    × (l.slope ≡ filled (λ s. s.slope) l.fn.indices l.segments l.state l.t l.initial.slope)
