-- A test of every index below n is the library's test of every element of the first n: what `a[..n].iter().all(..)` and `a[..n] == b[..n]` give.
use Rattle.std.specs.Prelude.{◌≡◌, refl, Bool, true, false, cond, ◌&&◌, ℕ, zero, suc, ◌≤◌, List, [], ◌∷◌, length, take, get_or}
use Rattle.std.proofs.Common.{arith}
use Rattle.std.specs.List.{list_all}
use Rattle.std.specs.Cmp.Lexicographic.{pointwise}
use Rattle.folds.specs.Fold.{all}

all-first : (n : ℕ) (p : ℕ → Bool) → all (suc n) p ≡ (p 0 && all n (λ i. p (suc i)))
unfolding all
all-first zero p = go (p 0)
  where
    go : (b : Bool) → cond b true false ≡ (b && true)
    go true = refl
    go false = refl
all-first (suc n) p = rw (all-first n p) (go (p (suc n)) (p 0) (all n (λ i. p (suc i))))
  where
    go : (t b a : Bool) → cond t (b && a) false ≡ (b && cond t a false)
    go true b a = refl
    go false true a = refl
    go false false a = refl

module _ {A : Type 0} (d : A) where
  pub all-listed : (p : A → Bool) (n : ℕ) (xs : List A) → n ≤ length xs → list_all p (take n xs) ≡ all n (λ i. p (get_or xs i d))
  unfolding all
  all-listed p zero xs h = refl
  all-listed p (suc n) [] h = absurd (omega arith)
  all-listed p (suc n) (x ∷ xs) h =
      rw (all-first n (λ i. p (get_or (x ∷ xs) i d)), all-listed p n xs (omega arith))

  pub all-pairs : (f : A → A → Bool) (n : ℕ) (xs ys : List A) → n ≤ length xs → n ≤ length ys →
      pointwise f (take n xs) (take n ys) ≡ all n (λ i. f (get_or xs i d) (get_or ys i d))
  unfolding all
  all-pairs f zero xs ys h k = refl
  all-pairs f (suc n) [] ys h k = absurd (omega arith)
  all-pairs f (suc n) (x ∷ xs) [] h k = absurd (omega arith)
  all-pairs f (suc n) (x ∷ xs) (y ∷ ys) h k =
      rw (all-first n (λ i. f (get_or (x ∷ xs) i d) (get_or (y ∷ ys) i d)), all-pairs f n xs ys (omega arith) (omega arith))
