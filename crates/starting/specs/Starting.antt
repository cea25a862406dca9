-- qp.rs, `solve_piecewise_in_units` before its passes: which of n variables are fixed, the start held to its range, each variable's first state, and
-- the largest slope.
use Rattle.std.specs.Prelude.{ℕ, Bool, false, List, take, replicate, Float, None}
use Rattle.folds.specs.Fold.{fold, tab, over}
use Rattle.sizes.specs.Sizes as Sizes
use Rattle.arith.specs.Float.{f0, at}
use Rattle.arith.specs.Scalar.{abs, max}
use Rattle.segments.specs.declared.Segments.{Segments}
use Rattle.segments.specs.declared.State.{State}
use Rattle.segments.specs.Segments.{last, segments_at}
use Rattle.segments.specs.Start.{fixed, held, place, first}
use Rattle.iterate.specs.declared.Iterate.{Iterate}

-- `segments.iter().map(|s| s.points[0] >= s.points[s.last()]).collect()`
unfoldable pub all_fixed : (n : ℕ) (segments : List Segments) → List Bool
all_fixed n segments = tab n (λ i. fixed (segments_at segments i))

-- `DVector::from_fn(n, |i, _| ..)`
unfoldable pub all_held : (n : ℕ) (segments : List Segments) (start : List Float) → List Float
all_held n segments start = tab n (λ i. held (segments_at segments i) (at start i))

-- `(0..n).map(|i| ..).collect()`
unfoldable pub all_placed : (n : ℕ) (segments : List Segments) (x : List Float) → List State
all_placed n segments x = tab n (λ i. place (segments_at segments i) (at x i))

-- `s.slopes.iter()`, `.fold(m, |m, s| m.max(s.abs()))`
unfoldable pub slopes_amax : Segments → (m : Float) → Float
slopes_amax s m = fold (last s) (λ j t. max t (abs (at s.slopes j))) m

-- `segments.iter().flat_map(|s| s.slopes.iter()).fold(0.0f64, |m, s| m.max(s.abs()))`
unfoldable pub slope_amax : (n : ℕ) (segments : List Segments) → Float
slope_amax n segments = fold n (λ i m. slopes_amax (segments_at segments i) m) f0

-- where the passes start: the start held to its range, each variable's first state, no variable refused or released
unfoldable pub started : (n : ℕ) (segments : List Segments) (start : List Float) → Iterate
started n segments start =
    let x = over (all_held n segments start) (replicate Sizes.variables f0) in
    record {
      board =
          record {
            x = x;
            state = over (all_placed n segments (take n x)) (replicate Sizes.variables first);
            refused = replicate Sizes.variables false;
          };
      released = None;
      freed = false;
      freed_at = replicate Sizes.variables f0;
    }
