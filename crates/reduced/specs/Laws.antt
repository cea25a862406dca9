-- Laws of the definitions: what a decomposition that was found gives, and one that was not.
use Rattle.std.specs.Prelude.{◌≡◌, true, false, List, ℕ, Float}
use Rattle.eigen.specs.Eigen.{given, symmetric_eigen}
use Rattle.eigen.specs.Laws.{given-eigen, given-nothing}
use Rattle.reduced.specs.Reduced.{projected, reduced, none, cutoff, with_cutoff, reduced_hessian}

module _ {h : List Float} (n d : ℕ) (k z l v : List Float) (e : h ≡ projected n d k z) where
  pub hessian-found : given true l v ≡ symmetric_eigen d h → reduced l v (cutoff n d k l) ≡ reduced_hessian n d k z
  unfolding reduced_hessian with_cutoff
  hessian-found f = rw (← e, ← f, given-eigen)

  pub hessian-none : given false l v ≡ symmetric_eigen d h → none ≡ reduced_hessian n d k z
  unfolding reduced_hessian with_cutoff
  hessian-none f = rw (← e, ← f, given-nothing)
