use Rattle.std.specs.Prelude.{ℕ, List, ◌≡◌, Result}
use Rattle.folds.specs.Kit.{rules}
use Rattle.std.proofs.Math.Path.{subst}
use Rattle.listing.specs.Appended.{listed_as}
use Rattle.format.specs.declared.Refusal.{Refusal}
use Rattle.placement.specs.declared.Placement.{Placement}
use Rattle.service.specs.Held.{PlacedFor}
use Rattle.places.specs.Places.{room}
use Rattle.places.specs.Laws.{listing-placed}
use Rattle.places.proofs.listing_of.Goals as goal

-- what the service placed, for the largest answer file
placed : (block : List ℕ) (p : Result Placement Refusal) (n : ℕ) → n ≡ room → PlacedFor block n p → PlacedFor block room p
placed block p n e h = subst (λ (n : ℕ). PlacedFor block n p) e h

pub listing_of-requires : goal.listing_of-requires
listing_of-requires c =
    record {
      planned = (placed _ _ _ c.file_size-room.ensures c.placed.ensures).planned;
      longest_in_bounds = c.requires;
    }

pub returns : goal.returns
returns c = listed_as (listing-placed _ (placed _ _ _ c.file_size-room.ensures c.placed.ensures)) c.listing_of.ensures
