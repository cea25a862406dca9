-- A factor that may be divided by.
use Rattle.std.specs.Prelude.{ℕ, ◌*◌, ◌≤◌, ◌≡◌, Bool, true, List, length, Float}
use Rattle.triangular.specs.Triangular.{regular}

-- the factor of k variables, where there is one, has no 0 on its diagonal
pub record Regular (k : ℕ) (factored : Bool) (l : List Float) : Type 0 where
  pub holds : k * k ≤ length l
  pub diagonal : factored ≡ true → regular l k ≡ true
