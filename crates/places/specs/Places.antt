-- What the program `places` prints for a block file. Document 01, "Known blocks": the listing of the block's plan, or "Refused, it prints one line".
use Rattle.std.specs.Prelude.{List, ℕ, ◌+◌}
use Rattle.block.specs.Ranges.{max_words, max_anchors, max_spans}
use Rattle.format.specs.Read as Read
use Rattle.format.specs.Read.{Outcome, read}
use Rattle.answer.specs.File.{file_size}
use Rattle.listing.specs.Listing.{refused}
use Rattle.placement_listing.specs.Listing.{of_placed}
use Rattle.service.specs.Place.{place_block}

-- no answer file is longer, so that there is no refusal 8
abbrev pub room : ℕ
room = file_size max_words (max_anchors + max_spans + 1)

unfoldable pub of_read : Outcome → List ℕ
of_read (Read.block b) = of_placed b (place_block b room)
of_read (Read.refused n) = refused n

unfoldable pub listing : List ℕ → List ℕ
listing s = of_read (read s)
