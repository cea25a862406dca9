-- The listing of what the service answers to a block. Document 01, "Known blocks": the listing of the block's plan, or "Refused, it prints one line".
use Rattle.std.specs.Prelude.{List, ℕ, Result, Ok, Err}
use Rattle.block.specs.Block.{Block}
use Rattle.format.specs.Read.{number_of}
use Rattle.format.specs.Structs.{block_of}
use Rattle.format.specs.declared.Refusal.{Refusal}
use Rattle.listing.specs.Listing.{plan, refused}
use Rattle.placement.specs.Placed.{Placed}
use Rattle.placement.specs.Held.{answer_in}
use Rattle.placement.specs.declared.Placement.{Placement}

unfoldable pub of_placed : Block → Placed → List ℕ
of_placed b (Placed.answered a) = plan b a.times a.gap a.passes
of_placed b (Placed.refused n) = refused n

-- of a result
abbrev pub of_result : Result Placement Refusal → List ℕ
of_result (Ok p) = of_placed (block_of p.block) (Placed.answered (answer_in p))
of_result (Err r) = refused (number_of r)
