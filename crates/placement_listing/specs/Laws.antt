-- The listing, by what is placed.
use Rattle.std.specs.Prelude.{◌≡◌, refl, ℕ, take}
use Rattle.block.specs.Block.{Block}
use Rattle.listing.specs.Listing.{plan, refused}
use Rattle.placement.specs.Placed as Placed
use Rattle.placement.specs.Held.{answer_in}
use Rattle.placement.specs.declared.Placement.{Placement}
use Rattle.placement_listing.specs.Listing.{of_placed}

module _ (b : Block) where
  pub listing-plan : (p : Placement) → plan b (take p.block.words p.times) p.gap p.passes ≡ of_placed b (Placed.answered (answer_in p))
  unfolding of_placed
  listing-plan p = refl

  pub listing-refusal : (n : ℕ) → refused n ≡ of_placed b (Placed.refused n)
  unfolding of_placed
  listing-refusal n = refl
