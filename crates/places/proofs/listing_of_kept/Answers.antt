use Rattle.folds.specs.Kit.{rules}
use Rattle.listing.specs.Appended.{listed_as, listed_within}
use Rattle.places.specs.Laws.{listing-read}
use Rattle.places.proofs.listing_of_kept.Goals as goal

pub returns : goal.returns
returns c =
    let l = c.listing_of.ensures in
    record {
      by_index = λ file e. listed_as (listing-read _ file (c.kept.ensures file e)) l;
      upper_bound = listed_within l;
    }
