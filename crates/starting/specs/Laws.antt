-- Laws of the definitions: how many are told fixed, each variable's first state stands at a point or between two, and so does the first iterate's.
use Rattle.std.specs.Prelude.{◌≡◌, refl, List, ℕ, length, Float}
use Rattle.folds.specs.Fold.{over}
use Rattle.folds.specs.Tab.{length-tab}
use Rattle.arith.specs.Float.{at}
use Rattle.segments.specs.declared.Segments.{Segments}
use Rattle.segments.specs.declared.State.{State}
use Rattle.segments.specs.Segments.{segments_at, AllCut, AllPlaced}
use Rattle.segments.specs.Start.{place}
use Rattle.segments.specs.Laws.{place-placed, tab-placed}
use Rattle.iterate.specs.Iterate.{Consistent}
use Rattle.starting.specs.Starting.{all_fixed, all_placed, started}

pub length-all_fixed : (n : ℕ) (segments : List Segments) → length (all_fixed n segments) ≡ n
unfolding all_fixed
length-all_fixed n segments = length-tab n _

pub all-placed : (n : ℕ) (segments : List Segments) (o r : List State) (x : List Float) → AllCut n segments → r ≡ over (all_placed n segments x) o →
    AllPlaced n segments r
unfolding all_placed
all-placed n segments o r x cut q =
    tab-placed n segments o r (λ i. place (segments_at segments i) (at x i)) (λ i l. place-placed (segments_at segments i) (cut i l) (at x i)) q

pub started_consistent : (n : ℕ) (segments : List Segments) (start : List Float) → AllCut n segments → Consistent n segments (started n segments start)
unfolding started
started_consistent n segments start cut = record { placed = all-placed n segments _ _ _ cut refl }
