-- Laws of the definitions: how long each list is, what stands at each place, and that only the first n elements count.
use Rattle.std.specs.Prelude.{◌≡◌, true, false, List, ℕ, ◌<◌, ◌≤◌, length, take, get_or, replicate, Float}
use Rattle.std.proofs.Common.{sym, ◌∙◌, ⊎_elim, arith, length-take-le, get_or-take, ext_get_or}
use Rattle.std.proofs.lemmas.List.{length-replicate, get_or-replicate}
use Rattle.std.specs.Float.Ieee.{nan, eq}
use Rattle.std.specs.Float.{binary64}
use Rattle.std.specs.Float.Ieee.Fits.{div-fits}
use Rattle.folds.specs.Fold.{tab, over}
use Rattle.folds.specs.Decide.{lt-or-le}
use Rattle.folds.specs.Tab.{length-tab, get_d_tab, tab-same, tab-all, length-over, over-all, over_in, over_past, take-replicate, taken-over}
use Rattle.arith.specs.Float.{fadd, fsub, fmul, fdiv, f0, at}
use Rattle.arith.specs.Scalar.{is_finite}
use Rattle.arith.specs.Neutral.{Held, zero-is, plus, plus-held, plus-add, add-zero}
use Rattle.arith.specs.Quotients.{quotient}
use Rattle.reductions.specs.Reductions.{amax, all_finite}
use Rattle.reductions.specs.Laws.{finite-at, finite-all, amax_largest}
use Rattle.vector.specs.Vector.{scaled, divided, add, sub, mul, div, add_scaled, sub_scaled, add_scalar, copy, filled}
use Rattle.vector.specs.Vector.{select}

-- ---- a list whose first n elements are g 0, .., g (n - 1), and whose others are o's
pub over_by : (n : ℕ) (g : ℕ → Float) (s o : List Float) → n ≤ length o → length s ≡ length o →
    ((k : ℕ) → k < n → at s k ≡ g k) → ((k : ℕ) → n ≤ k → at s k ≡ at o k) → s ≡ over (tab n g) o
over_by n g s o h e f r =
    let t : length (tab n g) ≡ n = length-tab n g in
    ext_get_or nan s (over (tab n g) o) (e ∙ sym (length-over (tab n g) o (omega arith)))
    (λ k _. ⊎_elim
    (λ (i : k < n). f k i ∙ sym (over_in nan (tab n g) o k (omega arith) ∙ get_d_tab nan n k g i))
    (λ (i : n ≤ k). r k i ∙ sym (over_past nan (tab n g) o k (omega arith)))
    (lt-or-le k n))

-- ---- lengths
module _ (n : ℕ) where
  pub length-scaled : (a : List Float) (s : Float) → length (scaled n a s) ≡ n
  unfolding scaled
  length-scaled a s = length-tab n _

  pub length-divided : (a : List Float) (s : Float) → length (divided n a s) ≡ n
  unfolding divided
  length-divided a s = length-tab n _

  pub length-add : (a b : List Float) → length (add n a b) ≡ n
  unfolding add
  length-add a b = length-tab n _

  pub length-sub : (a b : List Float) → length (sub n a b) ≡ n
  unfolding sub
  length-sub a b = length-tab n _

  pub length-mul : (a b : List Float) → length (mul n a b) ≡ n
  unfolding mul
  length-mul a b = length-tab n _

  pub length-div : (a b : List Float) → length (div n a b) ≡ n
  unfolding div
  length-div a b = length-tab n _

  pub length-add_scaled : (y x : List Float) (s : Float) → length (add_scaled n y x s) ≡ n
  unfolding add_scaled
  length-add_scaled y x s = length-tab n _

  pub length-sub_scaled : (y x : List Float) (s : Float) → length (sub_scaled n y x s) ≡ n
  unfolding sub_scaled
  length-sub_scaled y x s = length-tab n _

  pub length-add_scalar : (a : List Float) (s : Float) → length (add_scalar n a s) ≡ n
  unfolding add_scalar
  length-add_scalar a s = length-tab n _

  pub length-copy : (a : List Float) → length (copy n a) ≡ n
  unfolding copy
  length-copy a = length-tab n _

  pub length-filled : (v : Float) → length (filled n v) ≡ n
  unfolding filled
  length-filled v = length-tab n _

  pub length-select : (a : List Float) (l : List ℕ) → length (select n a l) ≡ n
  unfolding select
  length-select a l = length-tab n _

-- ---- elements
module _ (n k : ℕ) (h : k < n) where
  pub scaled-at : (a : List Float) (s : Float) → at (scaled n a s) k ≡ fmul (at a k) s
  unfolding scaled
  scaled-at a s = get_d_tab nan n k _ h

  pub divided-at : (a : List Float) (s : Float) → at (divided n a s) k ≡ fdiv (at a k) s
  unfolding divided
  divided-at a s = get_d_tab nan n k _ h

  pub add-at : (a b : List Float) → at (add n a b) k ≡ fadd (at a k) (at b k)
  unfolding add
  add-at a b = get_d_tab nan n k _ h

  pub sub-at : (a b : List Float) → at (sub n a b) k ≡ fsub (at a k) (at b k)
  unfolding sub
  sub-at a b = get_d_tab nan n k _ h

  pub mul-at : (a b : List Float) → at (mul n a b) k ≡ fmul (at a k) (at b k)
  unfolding mul
  mul-at a b = get_d_tab nan n k _ h

  pub div-at : (a b : List Float) → at (div n a b) k ≡ fdiv (at a k) (at b k)
  unfolding div
  div-at a b = get_d_tab nan n k _ h

  pub add_scaled-at : (y x : List Float) (s : Float) → at (add_scaled n y x s) k ≡ fadd (at y k) (fmul (at x k) s)
  unfolding add_scaled
  add_scaled-at y x s = get_d_tab nan n k _ h

  pub sub_scaled-at : (y x : List Float) (s : Float) → at (sub_scaled n y x s) k ≡ fsub (at y k) (fmul (at x k) s)
  unfolding sub_scaled
  sub_scaled-at y x s = get_d_tab nan n k _ h

  pub add_scalar-at : (a : List Float) (s : Float) → at (add_scalar n a s) k ≡ fadd (at a k) s
  unfolding add_scalar
  add_scalar-at a s = get_d_tab nan n k _ h

  pub copy-at : (a : List Float) → at (copy n a) k ≡ at a k
  unfolding copy
  copy-at a = get_d_tab nan n k _ h

  pub filled-at : (v : Float) → at (filled n v) k ≡ v
  unfolding filled
  filled-at v = get_d_tab nan n k _ h

  pub select-at : (a : List Float) (l : List ℕ) → at (select n a l) k ≡ at a (get_or l k 0)
  unfolding select
  select-at a l = get_d_tab nan n k _ h

-- ---- copies and lists of one value
pub copy-all : (n : ℕ) (a : List Float) → length a ≡ n → copy n a ≡ a
unfolding copy
copy-all n a e = tab-all nan n a e

pub copy-take : (n : ℕ) (a : List Float) → n ≤ length a → take n a ≡ copy n a
unfolding copy
copy-take n a h = let m : length (take n a) ≡ n = length-take-le n a h in sym (copy-all n (take n a) m) ∙ tab-same n _ _ (λ k l. get_or-take n a k nan l)

-- a copy over a list of n elements is the copy, and of a list of n elements is that list
pub over-copy : (n : ℕ) (a o : List Float) → length o ≡ n → over (copy n a) o ≡ copy n a
over-copy n a o e = over-all (copy n a) o (length-copy n a ∙ sym e)

pub copy-over : (n : ℕ) (a o : List Float) → length a ≡ n → length o ≡ n → over (copy n a) o ≡ a
copy-over n a o p q = over-copy n a o q ∙ copy-all n a p

pub over-filled : (n : ℕ) (v : Float) (o : List Float) → length o ≡ n → over (filled n v) o ≡ filled n v
over-filled n v o e = over-all (filled n v) o (length-filled n v ∙ sym e)

pub replicate-filled : (n : ℕ) (v : Float) → replicate n v ≡ filled n v
unfolding filled
replicate-filled n v = sym (tab-all nan n (replicate n v) (length-replicate n v)) ∙ tab-same n _ _ (λ k l. get_or-replicate n k v nan l)

pub take-filled : (k n : ℕ) (v : Float) → k ≤ n → take k (replicate n v) ≡ filled k v
unfolding filled
take-filled k n v h = take-replicate k n v h

pub take_zeros : (k n : ℕ) → k ≤ n → take k (replicate n f0) ≡ filled k f0
take_zeros k n h = take-filled k n f0 h

-- ---- only the first n elements count
abbrev pub Same : (n : ℕ) (a b : List Float) → Type 0
Same n a b = (k : ℕ) → k < n → at a k ≡ at b k

pub same-take : (n : ℕ) (a : List Float) → Same n (take n a) a
same-take n a k h = get_or-take n a k nan h

pub same-over : (n : ℕ) (l o : List Float) → n ≤ length l → Same n (over l o) l
same-over n l o p k h = over_in nan l o k (omega arith)

pub same-copy : (n : ℕ) (a : List Float) → Same n (copy n a) a
same-copy n a k h = copy-at n k h a

-- what was written, less x in its place
pub taken_less : {r s : List Float} (n : ℕ) (l o x : List Float) → length l ≡ n → r ≡ over l o → s ≡ over (sub n r x) r → take n s ≡ sub n l x
unfolding sub
taken_less {r} n l o x h e g =
    taken-over n r (length-sub n r x) g ∙ tab-same n _ _ (λ i q. rw (e, same-over n l o (omega arith) i q))

module _ (n : ℕ) (a b : List Float) (e : Same n a b) where
  pub copy-same : copy n a ≡ copy n b
  unfolding copy
  copy-same = tab-same n _ _ e

module _ (n : ℕ) (a b c d : List Float) (e : Same n a c) (f : Same n b d) where
  pub mul-same : mul n a b ≡ mul n c d
  unfolding mul
  mul-same = tab-same n _ _ (λ k l. rw (e k l, f k l))

  pub div-same : div n a b ≡ div n c d
  unfolding div
  div-same = tab-same n _ _ (λ k l. rw (e k l, f k l))

-- ---- quotients
-- a finite list over its largest absolute value, if that is not 0, is finite
pub quotients_finite : (n : ℕ) (a : List Float) → all_finite n a ≡ true → eq (amax n a) f0 ≡ false → all_finite n (divided n a (amax n a)) ≡ true
quotients_finite n a h z =
    let l = amax n a in
    let f : (k : ℕ) → k < n → is_finite (at a k) ≡ true = λ k i. finite-at n k a h i in
    let u = amax_largest n a f in
    finite-all n (divided n a l) (λ k i. rw (divided-at n k i a l) (quotient (at a k) l (f k i) u.0 z (u.1 k i)))

-- ---- adding 0 to finite values of f64
abbrev pub Holding : (n : ℕ) (a : List Float) → Type 0
Holding n a = (k : ℕ) → k < n → Held (at a k)

module _ (n : ℕ) (a : List Float) (h : Holding n a) where
  plus-at : (k : ℕ) → k < n → at (add_scalar n a f0) k ≡ plus (at a k)
  plus-at k l = add_scalar-at n k l a f0 ∙ add-zero (at a k) (h k l)

  pub zero_holding : Holding n (add_scalar n a f0)
  zero_holding k l = rw (plus-at k l) (plus-held (at a k) (h k l))

  -- a second time changes nothing
  pub zero_twice : add_scalar n (add_scalar n a f0) f0 ≡ add_scalar n a f0
  zero_twice =
      ext_get_or nan (add_scalar n (add_scalar n a f0) f0) (add_scalar n a f0) (length-add_scalar n (add_scalar n a f0) f0 ∙ sym (length-add_scalar n a f0))
      (λ k i. let l : k < n = rw (length-add_scalar n (add_scalar n a f0) f0) at i in
      add_scalar-at n k l (add_scalar n a f0) f0 ∙ rw (plus-at k l) (plus-add (at a k) f0 (h k l) (false, zero-is)))

-- quotients are values of f64
pub quotients_holding : (n : ℕ) (a : List Float) (s : Float) → all_finite n (divided n a s) ≡ true → Holding n (divided n a s)
quotients_holding n a s h k l = (finite-at n k (divided n a s) h l, rw (divided-at n k l a s) (div-fits binary64 (at a k) s))
