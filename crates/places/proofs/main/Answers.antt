use Rattle.std.proofs.Common.{sym, length-take-le}
use Rattle.places.proofs.main.Goals as goal

pub slice_bounds-text-end : goal.slice_bounds-text-end
slice_bounds-text-end c = c.listing_of_kept-k.ensures.upper_bound

pub slice_bounds-write_all-end : goal.slice_bounds-write_all-end
slice_bounds-write_all-end c = sym (length-take-le _ _ c.listing_of_kept-k.ensures.upper_bound)
