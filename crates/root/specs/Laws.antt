-- The root where there is nothing to work out.
use Rattle.std.specs.Prelude.{◌≡◌, Bool, true, false, ℕ, suc, ℤ}
use Rattle.std.proofs.Math.Path.{refl}
use Rattle.std.specs.Float.{nan, inf, fin, Format}
use Rattle.root.specs.Root.{root}

module _ (f : Format) where
  pub root_nan : root f nan ≡ nan
  unfolding root
  root_nan = refl

  pub root_infinite : root f (inf false) ≡ inf false
  unfolding root
  root_infinite = refl

  pub root-minus_infinite : root f (inf true) ≡ nan
  unfolding root
  root-minus_infinite = refl

  -- the sign stays
  pub root-zero : (s : Bool) (e : ℤ) → root f (fin s 0 e) ≡ fin s 0 e
  unfolding root
  root-zero s e = refl

  pub root-negative : (m : ℕ) (e : ℤ) → root f (fin true (suc m) e) ≡ nan
  unfolding root
  root-negative m e = refl
