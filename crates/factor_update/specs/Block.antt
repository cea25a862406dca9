-- What the counts ask of Q: it is n by n, and `originals` of its variables count.
use Rattle.std.specs.Prelude.{ℕ, ◌*◌, ◌≤◌, List, length, Float}
use Rattle.sizes.specs.Sizes as Sizes

pub record Block (n originals : ℕ) (q : List Float) : Type 0 where
  pub few : originals ≤ Sizes.originals
  pub within : originals ≤ n
  pub q_holds : n * n ≤ length q
