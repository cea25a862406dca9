-- The listing by what the service answers.
use Rattle.std.specs.Prelude.{◌≡◌, List, ℕ, Result, Ok, Err}
use Rattle.std.proofs.Math.Path.{refl, sym, ap}
use Rattle.std.proofs.Common.{◌∙◌}
use Rattle.block.specs.Block.{Block}
use Rattle.format.specs.Read as Read
use Rattle.format.specs.Read.{Outcome, read, number_of}
use Rattle.format.specs.declared.Refusal.{Refusal}
use Rattle.format.specs.Structs.{block_of}
use Rattle.listing.specs.Listing.{refused}
use Rattle.placement.specs.Placed as Placed
use Rattle.placement.specs.Held.{placed_of}
use Rattle.service.specs.Held.{PlacedFor}
use Rattle.service.specs.Laws.{block-refused, block-placed}
use Rattle.placement.specs.declared.Placement.{Placement}
use Rattle.placement_listing.specs.Listing.{of_placed, of_result}
use Rattle.placement_listing.specs.Laws.{listing-refusal}
use Rattle.places.specs.Places.{room, of_read, listing}

-- what is read alike has one listing
pub listing-read : (s t : List ℕ) → read s ≡ read t → listing s ≡ listing t
unfolding listing
listing-read s t e = ap of_read e

module _ {s : List ℕ} where
  module _ {r : Result Placement Refusal} (P : PlacedFor s room r) where
    -- of a block that was read
    of_block : (b : Block) → read s ≡ Read.block b → of_placed b (placed_of r) ≡ listing s
    unfolding listing of_read
    of_block b e = sym (ap of_read e ∙ ap (of_placed b) (block-placed s room b e ∙ sym P.is))

  of-refusal : (r : Refusal) → PlacedFor s room (Err r) → refused (number_of r) ≡ listing s
  unfolding listing of_read
  of-refusal r P = go (read s) refl
    where
      go : (o : Outcome) → read s ≡ o → refused (number_of r) ≡ listing s
      go (Read.block b) e = listing-refusal b (number_of r) ∙ of_block P b e
      go (Read.refused n) e = sym (ap of_read e ∙ ap refused (same n (block-refused s room n e ∙ sym P.is)))
        where
          same : (n : ℕ) → Placed.refused n ≡ Placed.refused (number_of r) → n ≡ number_of r
          same n e = cc

  pub listing-placed : (r : Result Placement Refusal) → PlacedFor s room r → of_result r ≡ listing s
  listing-placed (Ok p) P = of_block P (block_of p.block) P.is_read
  listing-placed (Err r) P = of-refusal r P
