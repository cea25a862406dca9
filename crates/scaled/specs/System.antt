-- qp.rs, the tuple `(k, c, e, b)` of Kx + Eλ = c, Eᵀx = b: K is n by n, c has n elements, E is n by m, b has m.
use Rattle.std.specs.Prelude.{ℕ, ◌*◌, ◌≤◌, List, length, Float}
use Rattle.folds.specs.Cell.{area}
use Rattle.sizes.specs.Sizes as Sizes

pub data System : Type 0 where
  system : (n m : ℕ) (k c e b : List Float) → System

-- the engine's sizes, and lists that hold what the counts give
pub record Sized (n m : ℕ) (k c e b : List Float) : Type 0 where
  pub few : n ≤ Sizes.originals
  pub columns : m ≤ Sizes.columns
  pub k_holds : n * n ≤ length k
  pub c_holds : n ≤ length c
  pub e_holds : n * m ≤ length e
  pub b_holds : m ≤ length b

-- how many entries K and E have at most
pub square-fits : {n m : ℕ} {k c e b : List Float} → Sized n m k c e b → n * n ≤ 1024
square-fits s = area s.few s.few

pub entries-fits : {n m : ℕ} {k c e b : List Float} → Sized n m k c e b → n * m ≤ 768
entries-fits s = area s.few s.columns
