use Rattle.folds.specs.Kit.{◌≡◌, length}
use Rattle.format.specs.Structs.{block_of}
use Rattle.listing.specs.Listing.{word_lines}
use Rattle.listing.specs.Appended.{Appended}
use Rattle.listing.proofs.put_words.Given as goal

abbrev pub invariant-loop-i : goal.invariant-loop-i
invariant-loop-i l = (length l.out ≡ length l.initial.out) × Appended l.at (word_lines l.i (block_of l.fn.b) l.times) l.initial.out l.end l.out
