-- Only the factor counts of the list that it is read from: its first n * n elements.
use Rattle.std.specs.Prelude.{◌≡◌, List, ℕ, ◌+◌, ◌-◌, ◌*◌, ◌<◌, ◌≤◌, length, Float}
use Rattle.std.proofs.Common.{◌∙◌, ⊎_elim, eq-or-lt_of_le, arith}
use Rattle.folds.specs.Fold.{over}
use Rattle.folds.specs.Decide.{lt-or-le}
use Rattle.folds.specs.Tab.{tab_m-same, over_in}
use Rattle.vector.specs.Vector.{copy}
use Rattle.vector.specs.Laws.{Same, length-copy, copy-at}
use Rattle.columns.specs.Laws.{cell-same}
use Rattle.triangular.specs.Laws.{Lower}
use Rattle.update.specs.Update.{staying, closed_entry, closed, leave, remove_column, standing, joined_entry, joining, joined, join, insert_column}
use Rattle.update.specs.Leaving.{staying-below}
use Rattle.update.specs.Lower.{standing-low, standing-high, removed-lower, joined_entry-same, joining-lower}

same-lower : (n : ℕ) (a b : List Float) → Same (n * n) a b → Lower n a b
same-lower n a b e i j g q = cell-same n n i j q (omega arith) a b e

module _ (n p : ℕ) (a b : List Float) (h : p ≤ n) (e : Same ((n + 1) * (n + 1)) a b) where
  closed-same : closed n p a ≡ closed n p b
  unfolding closed closed_entry
  closed-same =
      tab_m-same n n (closed_entry n p a) (closed_entry n p b)
      (λ i j u v. cell-same (n + 1) (n + 1) (staying p i) (staying p j) (staying-below n p i u) (staying-below n p j v) a b e)

  leave-same : (o : List Float) → leave n p a o ≡ leave n p b o
  unfolding leave
  leave-same o = rw (closed-same, removed-lower n p a b h (same-lower (n + 1) a b e))

-- the list with the first n elements of a
over-same : (n : ℕ) (a o : List Float) → Same n (over (copy n a) o) a
over-same n a o i h =
    let k : i < length (copy n a) = rw (length-copy n a) h in over_in _ (copy n a) o i k ∙ copy-at n i h a

pub leave-copy : (k p : ℕ) (l o : List Float) → p < k → leave (k - 1) p (over (copy (k * k) l) o) l ≡ remove_column k p l
unfolding remove_column
leave-copy k p l o h =
    let z : k - 1 + 1 ≡ k = omega arith in
    leave-same (k - 1) p (over (copy (k * k) l) o) l (omega arith) (rw z (over-same (k * k) l o)) l

module _ (n p : ℕ) (a b : List Float) (h : p ≤ n) (e : Same (n * n) a b) where
  standing-below : (i : ℕ) → i < n + 1 → (i ≡ p → ⊥) → standing p i < n
  standing-below i q d =
      ⊎_elim (λ (x : p < i). rw (standing-high p i x) (omega arith))
      (λ (x : i ≤ p). rw (standing-low p i x) (⊎_elim (λ (y : i ≡ p). absurd (d y)) (λ (y : i < p). omega arith) (eq-or-lt_of_le x)))
      (lt-or-le p i)

  entry-same : (x : List Float) (i j : ℕ) → i < n + 1 → j < n + 1 → joined_entry n p a x i j ≡ joined_entry n p b x i j
  entry-same x i j u v =
      joined_entry-same n p a b x i j
      (λ c d. cell-same n n (standing p i) (standing p j) (standing-below i u c) (standing-below j v d) a b e)

  joined-same : (x : List Float) → joined n p a x ≡ joined n p b x
  unfolding joined
  joined-same x = tab_m-same (n + 1) (n + 1) (joined_entry n p a x) (joined_entry n p b x) (entry-same x)

  join-same : (q o : List Float) → join n p q a o ≡ join n p q b o
  unfolding join
  join-same q o = rw (joining-lower n p a b h (same-lower n a b e) (copy (n + 1) q), joined-same (joining n p b (copy (n + 1) q)))

pub join-copy : (n p : ℕ) (q l o : List Float) → p ≤ n → join n p q (over (copy (n * n) l) o) l ≡ insert_column n p q l
unfolding insert_column
join-copy n p q l o h = join-same n p (over (copy (n * n) l) o) l h (over-same (n * n) l o) q l
