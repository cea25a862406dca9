-- What the counts ask of the lists: room for the factor of all `originals`, and for what it was.
use Rattle.std.specs.Prelude.{ℕ, ◌*◌, ◌≤◌, List, length, Float}
use Rattle.sizes.specs.Sizes as Sizes

pub record Room (originals : ℕ) (l room : List Float) : Type 0 where
  pub few : originals ≤ Sizes.originals
  pub l_holds : originals * originals ≤ length l
  pub room_holds : originals * originals ≤ length room
