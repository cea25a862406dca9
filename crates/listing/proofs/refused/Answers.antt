use Rattle.folds.specs.Kit.{ℕ, ◌<◌, ◌≤◌, length, arith}
use Prim.Native.Nat.{◌^◌}
use mathlib.Core.List.{List}
use Rattle.listing.specs.Listing.{refused_word, refused}
use Rattle.listing.specs.Appended.{Room, listed}
use Rattle.listing.specs.Longest.{longest, refused-short}
use Rattle.listing.proofs.refused.Goals as goal

room : (n : ℕ) (o : List ℕ) → n < 2 ^ 32 → longest ≤ length o → Room 0 (refused n) o
room n o f h = let s = refused-short n f in record { fits = omega (arith, s.most, h) }

pub put_count-requires : goal.put_count-requires
unfolding refused refused_word
put_count-requires c = room c.args.number _ c.ranges.number.fits c.requires

pub returns : goal.returns
unfolding refused refused_word
returns c = listed c.put_count.ensures
