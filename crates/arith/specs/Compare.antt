-- The order of all floats: `lt` is strict, and of numbers, which are not NaN, one comes before another, after it, or equals it.
use Rattle.std.specs.Prelude.{◌≡◌, ℕ, ◌+◌, ◌*◌, ◌<◌, ◌≤◌, Bool, true, false, ◌&&◌, ℤ, ◌==◌, nat_lt, refl, Float}
use Rattle.std.proofs.Common.{sym, ◌∙◌, le_of_lt, add-mul, mul_right_comm, mul-le-mul_right, mul-lt-mul_of_pos_right, lt_of_mul-lt-mul_right, arith, ltb-true, ltb-false, lt-ltb, le-ltb, eq-eqb, eqb-true}
use Rattle.std.specs.Float.{nan, inf, fin}
use Rattle.std.specs.Float.Ieee.{up, down, below, level, is_nan, lt, le, eq}
use Rattle.std.specs.Float.Ieee.Fits.{down_pos}
use Rattle.folds.specs.Fold.{false_true, false_of}

-- ---- a finite value as a difference of two fractions, of which one is 0
abbrev plus : Bool → ℕ → ℕ
plus false a = a
plus true a = 0

abbrev minus : Bool → ℕ → ℕ
minus false a = 0
minus true a = a

below-is : (s : Bool) (a p : ℕ) (t : Bool) (b q : ℕ) → below s (a * q) t (b * p) ≡ nat_lt (plus s a * q + minus t b * p) (plus t b * p + minus s a * q)
below-is false a p false b q = let e : a * q + 0 * p ≡ a * q = omega arith in let f : b * p + 0 * q ≡ b * p = omega arith in rw (e, f)
below-is true a p true b q = let e : 0 * q + b * p ≡ b * p = omega arith in let f : 0 * p + a * q ≡ a * q = omega arith in rw (e, f)
below-is false a p true b q = sym (le-ltb (a * q + b * p) (0 * p + 0 * q) (omega arith))
below-is true a p false b q = let e : 0 * q + 0 * p ≡ 0 = omega arith in let f : b * p + a * q ≡ a * q + b * p = omega arith in rw (e, f)

-- x < y ≤ z
pass : (a a' p b b' q c c' r : ℕ) → 0 < r → a * q + b' * p < b * p + a' * q → b * r + c' * q ≤ c * q + b' * r → a * r + c' * p < c * p + a' * r
pass a a' p b b' q c c' r R h k =
    let u : (a * q + b' * p) * r < (b * p + a' * q) * r = mul-lt-mul_of_pos_right h R in
    let v : (b * r + c' * q) * p ≤ (c * q + b' * r) * p = mul-le-mul_right p k in
    let w : a * q * r + b' * p * r < b * p * r + a' * q * r = simp add-mul at u in
    let x : b * r * p + c' * q * p ≤ c * q * p + b' * r * p = simp add-mul at v in
    lt_of_mul-lt-mul_right q
    (rw (add-mul, add-mul)
    (omega (
      arith,
      mul_right_comm a r q,
      mul_right_comm c' p q,
      mul_right_comm c p q,
      mul_right_comm a' r q,
      mul_right_comm b p r,
      mul_right_comm b' p r,
    )))

module _ (s : Bool) (m : ℕ) (e : ℤ) (t : Bool) (n : ℕ) (d : ℤ) where
  fin_lt : lt (fin s m e) (fin t n d) ≡
      nat_lt (plus s (m * up e) * down d + minus t (n * up d) * down e) (plus t (n * up d) * down e + minus s (m * up e) * down d)
  unfolding lt
  fin_lt = below-is s (m * up e) (down e) t (n * up d) (down d)

-- ---- the laws
pub lt_irrefl : (x : Float) → lt x x ≡ false
unfolding lt
lt_irrefl nan = refl
lt_irrefl (inf true) = refl
lt_irrefl (inf false) = refl
lt_irrefl (fin true m e) = le-ltb (m * up e * down e) (m * up e * down e) (omega arith)
lt_irrefl (fin false m e) = le-ltb (m * up e * down e) (m * up e * down e) (omega arith)

below_asym : (s : Bool) (a : ℕ) (t : Bool) (b : ℕ) → below s a t b ≡ true → below t b s a ≡ false
below_asym false a false b h = le-ltb b a (le_of_lt (ltb-true a b h))
below_asym false a true b h = absurd (false_true h)
below_asym true a false b h = refl
below_asym true a true b h = le-ltb a b (le_of_lt (ltb-true b a h))

pub lt_asym : (x y : Float) → lt x y ≡ true → lt y x ≡ false
unfolding lt
lt_asym nan y h = absurd (false_true h)
lt_asym (inf s) nan h = refl
lt_asym (inf true) (inf true) h = refl
lt_asym (inf true) (inf false) h = refl
lt_asym (inf false) (inf t) h = absurd (false_true h)
lt_asym (inf true) (fin t n d) h = refl
lt_asym (inf false) (fin t n d) h = absurd (false_true h)
lt_asym (fin s m e) nan h = refl
lt_asym (fin s m e) (inf true) h = absurd (false_true h)
lt_asym (fin s m e) (inf false) h = refl
lt_asym (fin s m e) (fin t n d) h = below_asym s (m * up e * down d) t (n * up d * down e) h

-- x < y, and z is not below y
pub lt-passes : (x y z : Float) → is_nan z ≡ false → lt x y ≡ true → lt z y ≡ false → lt x z ≡ true
unfolding lt is_nan
lt-passes nan y z i h k = absurd (false_true h)
lt-passes (inf s) nan z i h k = absurd (false_true h)
lt-passes (inf false) (inf t) z i h k = absurd (false_true h)
lt-passes (inf false) (fin t n d) z i h k = absurd (false_true h)
lt-passes (inf true) (inf true) z i h k = absurd (false_true h)
lt-passes (inf true) (inf false) nan i h k = absurd (false_true (sym i))
lt-passes (inf true) (inf false) (inf true) i h k = absurd (false_true (sym k))
lt-passes (inf true) (inf false) (inf false) i h k = refl
lt-passes (inf true) (inf false) (fin u l c) i h k = refl
lt-passes (inf true) (fin t n d) nan i h k = absurd (false_true (sym i))
lt-passes (inf true) (fin t n d) (inf true) i h k = absurd (false_true (sym k))
lt-passes (inf true) (fin t n d) (inf false) i h k = refl
lt-passes (inf true) (fin t n d) (fin u l c) i h k = refl
lt-passes (fin s m e) nan z i h k = absurd (false_true h)
lt-passes (fin s m e) (inf true) z i h k = absurd (false_true h)
lt-passes (fin s m e) (inf false) nan i h k = absurd (false_true (sym i))
lt-passes (fin s m e) (inf false) (inf true) i h k = absurd (false_true (sym k))
lt-passes (fin s m e) (inf false) (inf false) i h k = refl
lt-passes (fin s m e) (inf false) (fin u l c) i h k = absurd (false_true (sym k))
lt-passes (fin s m e) (fin t n d) nan i h k = absurd (false_true (sym i))
lt-passes (fin s m e) (fin t n d) (inf true) i h k = absurd (false_true (sym k))
lt-passes (fin s m e) (fin t n d) (inf false) i h k = refl
lt-passes (fin s m e) (fin t n d) (fin u l c) i h k =
    fin_lt s m e u l c
    ∙ lt-ltb _ _
    (pass (plus s (m * up e)) (minus s (m * up e)) (down e) (plus t (n * up d)) (minus t (n * up d)) (down d) (plus u (l * up c)) (minus u (l * up c))
    (down c) (down_pos c) (ltb-true _ _ (sym (fin_lt s m e t n d) ∙ h)) (ltb-false _ _ (sym (fin_lt u l c t n d) ∙ k)))

-- no NaN is before or after anything
pub nan_before : (x y : Float) → is_nan x ≡ true → lt x y ≡ false
unfolding lt is_nan
nan_before nan y h = refl
nan_before (inf s) y h = absurd (false_true h)
nan_before (fin s m e) y h = absurd (false_true h)

pub nan_after : (x y : Float) → is_nan y ≡ true → lt x y ≡ false
unfolding lt is_nan
nan_after nan y h = refl
nan_after (inf s) nan h = refl
nan_after (inf s) (inf t) h = absurd (false_true h)
nan_after (inf s) (fin t n d) h = absurd (false_true h)
nan_after (fin s m e) nan h = refl
nan_after (fin s m e) (inf t) h = absurd (false_true h)
nan_after (fin s m e) (fin t n d) h = absurd (false_true h)

pub lt-number : (x y : Float) → lt x y ≡ true → (is_nan x ≡ false) × (is_nan y ≡ false)
unfolding lt is_nan
lt-number nan y h = absurd (false_true h)
lt-number (inf s) nan h = absurd (false_true h)
lt-number (fin s m e) nan h = absurd (false_true h)
lt-number (inf s) (inf t) h = (refl, refl)
lt-number (inf s) (fin t n d) h = (refl, refl)
lt-number (fin s m e) (inf t) h = (refl, refl)
lt-number (fin s m e) (fin t n d) h = (refl, refl)

pub lt_trans : (x y z : Float) → lt x y ≡ true → lt y z ≡ true → lt x z ≡ true
lt_trans x y z h k = lt-passes x y z (lt-number y z k).1 h (lt_asym y z k)

-- ---- equal numbers: neither is before the other
level_not : (s : Bool) (a : ℕ) (t : Bool) (b : ℕ) → below s a t b ≡ false → below t b s a ≡ false → level s a t b ≡ true
level_not false a false b h k = rw (eq-eqb a b (omega (arith, ltb-false a b h, ltb-false b a k)))
level_not true a true b h k = rw (eq-eqb a b (omega (arith, ltb-false a b k, ltb-false b a h)))
level_not false a true b h k = let l = ltb-false 0 (b + a) k in rw (eq-eqb a b (omega arith), eq-eqb a 0 (omega arith))
level_not true a false b h k = let l = ltb-false 0 (a + b) h in rw (eq-eqb a b (omega arith), eq-eqb a 0 (omega arith))

and_true : (a b : Bool) → (a && b) ≡ true → (a ≡ true) × (b ≡ true)
and_true true b h = (refl, h)
and_true false b h = absurd (false_true h)

level_below : (s : Bool) (a : ℕ) (t : Bool) (b : ℕ) → level s a t b ≡ true → (below s a t b ≡ false) × (below t b s a ≡ false)
level_below false a false b h = let e = eqb-true a b (and_true (a == b) _ h).0 in (le-ltb a b (omega arith), le-ltb b a (omega arith))
level_below true a true b h = let e = eqb-true a b (and_true (a == b) _ h).0 in (le-ltb b a (omega arith), le-ltb a b (omega arith))
level_below false a true b h =
    let w = and_true (a == b) (a == 0) h in
    let e = eqb-true a b w.0 in
    let z = eqb-true a 0 w.1 in
    (refl, le-ltb 0 (b + a) (omega arith))
level_below true a false b h =
    let w = and_true (a == b) (a == 0) h in
    let e = eqb-true a b w.0 in
    let z = eqb-true a 0 w.1 in
    (le-ltb 0 (a + b) (omega arith), refl)

pub eq-not : (x y : Float) → is_nan x ≡ false → is_nan y ≡ false → lt x y ≡ false → lt y x ≡ false → eq x y ≡ true
unfolding lt eq is_nan
eq-not nan y i j h k = absurd (false_true (sym i))
eq-not (inf s) nan i j h k = absurd (false_true (sym j))
eq-not (inf true) (inf true) i j h k = refl
eq-not (inf true) (inf false) i j h k = absurd (false_true (sym h))
eq-not (inf false) (inf true) i j h k = absurd (false_true (sym k))
eq-not (inf false) (inf false) i j h k = refl
eq-not (inf true) (fin t n d) i j h k = absurd (false_true (sym h))
eq-not (inf false) (fin t n d) i j h k = absurd (false_true (sym k))
eq-not (fin s m e) nan i j h k = absurd (false_true (sym j))
eq-not (fin s m e) (inf true) i j h k = absurd (false_true (sym k))
eq-not (fin s m e) (inf false) i j h k = absurd (false_true (sym h))
eq-not (fin s m e) (fin t n d) i j h k = level_not s (m * up e * down d) t (n * up d * down e) h k

pub eq-lt : (x y : Float) → eq x y ≡ true → (lt x y ≡ false) × (lt y x ≡ false)
unfolding lt eq
eq-lt nan y h = absurd (false_true h)
eq-lt (inf s) nan h = absurd (false_true h)
eq-lt (inf true) (inf true) h = (refl, refl)
eq-lt (inf true) (inf false) h = absurd (false_true h)
eq-lt (inf false) (inf true) h = absurd (false_true h)
eq-lt (inf false) (inf false) h = (refl, refl)
eq-lt (inf s) (fin t n d) h = absurd (false_true h)
eq-lt (fin s m e) nan h = absurd (false_true h)
eq-lt (fin s m e) (inf t) h = absurd (false_true h)
eq-lt (fin s m e) (fin t n d) h = level_below s (m * up e * down d) t (n * up d * down e) h

pub eq-number : (x y : Float) → eq x y ≡ true → (is_nan x ≡ false) × (is_nan y ≡ false)
unfolding eq is_nan
eq-number nan y h = absurd (false_true h)
eq-number (inf s) nan h = absurd (false_true h)
eq-number (fin s m e) nan h = absurd (false_true h)
eq-number (inf s) (inf t) h = (refl, refl)
eq-number (inf s) (fin t n d) h = absurd (false_true h)
eq-number (fin s m e) (inf t) h = absurd (false_true h)
eq-number (fin s m e) (fin t n d) h = (refl, refl)

-- x < y ≤ z the other way round, and equal numbers compare alike
pub lt-passes_back : (x y z : Float) → is_nan x ≡ false → lt y z ≡ true → lt y x ≡ false → lt x z ≡ true
lt-passes_back x y z i h k = go (lt x z) refl
  where
    go : (b : Bool) → lt x z ≡ b → b ≡ true
    go true e = refl
    go false e = absurd (false_true (sym k ∙ lt-passes y z x i h e))

pub eq_trans : (x y z : Float) → eq x y ≡ true → eq y z ≡ true → eq x z ≡ true
eq_trans x y z h k =
    eq-not x z (eq-number x y h).0 (eq-number y z k).1
    (false_of (lt x z) (λ l. false_true (sym (eq-lt x y h).0 ∙ lt-passes x z y (eq-number x y h).1 l (eq-lt y z k).0)))
    (false_of (lt z x) (λ l. false_true (sym (eq-lt y z k).1 ∙ lt-passes z x y (eq-number x y h).1 l (eq-lt x y h).1)))

-- where x ≤ y fails
pub not-le : (x y : Float) → is_nan x ≡ false → is_nan y ≡ false → le x y ≡ false → lt y x ≡ true
unfolding le
not-le x y i j h = go (lt x y) (lt y x) refl refl
  where
    go : (a b : Bool) → lt x y ≡ a → lt y x ≡ b → b ≡ true
    go a true p q = refl
    go true false p q = absurd (false_true (sym h ∙ rw p))
    go false false p q = absurd (false_true (sym h ∙ rw (p, eq-not x y i j p q)))
