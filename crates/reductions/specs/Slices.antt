-- The first n elements of a slice: what a chain folds over them is the fold by index, and where a loop over them stands.
use Rattle.std.specs.Prelude.{◌≡◌, refl, ℕ, zero, suc, ◌<◌, ◌≤◌, List, length, take, get_or}
use Rattle.std.specs.List.{fold as list_fold}
use Rattle.std.proofs.Common.{◌∙◌, ap, arith, add-one, length-take-le, get_or-take}
use Rattle.std.proofs.lemmas.List.Sums.{fold_more}
use Rattle.folds.specs.Fold.{fold}

module _ {A : Type 0} (d : A) where
  pub fold-slice : {B : Type 0} (h : B → A → B) (z : B) (n : ℕ) (a : List A) → n ≤ length a →
      list_fold h z (take n a) ≡ fold n (λ k s. h s (get_or a k d)) z
  unfolding fold
  fold-slice h z zero a p = refl
  fold-slice h z (suc n) a p =
      rw add-one at (fold_more h z a n d p) ∙ ap (λ s. h s (get_or a n d)) (fold-slice h z n a (omega arith))

  pub slice-turn : (n k : ℕ) (a : List A) → n ≤ length a → k < length (take n a) → (k < n) × (get_or (take n a) k d ≡ get_or a k d)
  slice-turn n k a h l = let m : k < n = omega (arith, length-take-le n a h) in (m, get_or-take n a k d m)

pub slice-end : {A : Type 0} (n k : ℕ) (a : List A) → n ≤ length a → k ≤ length (take n a) → length (take n a) ≤ k → (k ≤ n) × (n ≤ k)
slice-end n k a h p q = let e = length-take-le n a h in (omega (arith, e), omega (arith, e))
