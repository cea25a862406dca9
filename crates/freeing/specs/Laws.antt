-- Laws of the definitions: none is free where the list has no element, and where every variable is freed, each stays placed.
use Rattle.std.specs.Prelude.{◌≡◌, refl, Bool, List, ℕ, eqb, length}
use Rattle.segments.specs.Segments.{AllCut}
use Rattle.segments.specs.Laws.{free-all-placed}
use Rattle.segments.specs.declared.Segments.{Segments}
use Rattle.iterate.specs.Iterate.{Consistent}
use Rattle.iterate.specs.declared.Iterate.{Iterate}
use Rattle.freeing.specs.Freeing.{none_free, free_everything}

pub none-free : (solved : List ℕ) → none_free solved ≡ eqb (length solved) 0
unfolding none_free
none-free solved = refl

pub everything_consistent : (n : ℕ) (segments : List Segments) (fixed : List Bool) (i : Iterate) → AllCut n segments → Consistent n segments i →
    Consistent n segments (free_everything n segments fixed i)
unfolding free_everything
everything_consistent n segments fixed i cut kept = record { placed = free-all-placed n segments fixed i.board.state cut kept.placed }
