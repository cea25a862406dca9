-- qp.rs, `solve_piecewise_in_units`: what a pass changes, the iterate, and the kept factor, whose matrix is l.
use Rattle.std.specs.Prelude.{ℕ, ◌≡◌, List, Float}
use Rattle.std.proofs.Math.Path.{refl}
use Rattle.folds.specs.Run.{Pass, more, done}
use Rattle.factoring.specs.Kept.{Kept, kept_of}
use Rattle.iterate.specs.Iterate.{Result, passed_of}
use Rattle.iterate.specs.declared.Iterate.{Iterate}
use Rattle.pass.specs.declared.Made.{Made}

pub data State : Type 0 where
  state : Iterate → Kept → (l : List Float) → State

unfoldable pub beside : Kept → (l : List Float) → Pass Iterate Result → Pass State Result
beside f l (more i) = more (state i f l)
beside f l (done r) = done r

-- of what the code leaves, with n variables and m columns
unfoldable pub made_of : (n m : ℕ) → Made → (l : List Float) → Pass State Result
made_of n m r l = beside (kept_of r.factoring) l (passed_of n m r.passed)

-- ---- laws
module _ (f : Kept) (l : List Float) where
  pub beside-more : (i : Iterate) → beside f l (more i) ≡ more (state i f l)
  unfolding beside
  beside-more i = refl

  pub beside-done : (r : Result) → beside f l (done r) ≡ done r
  unfolding beside
  beside-done r = refl

pub made_beside : (n m : ℕ) (r : Made) (l : List Float) → made_of n m r l ≡ beside (kept_of r.factoring) l (passed_of n m r.passed)
unfolding made_of
made_beside n m r l = refl
