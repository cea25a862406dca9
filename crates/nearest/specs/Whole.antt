-- v / u to the nearest whole number, for a whole v and a u above 0, a half to the even one: `even`. Its laws: it is at most half away and even at
-- a half (`even-is`), and the only such number (`even_only`), a larger fraction's is no smaller (`even_mono`), a whole number is its own
-- (`even_own`), whole bounds stay (`even-from`, `even_upto`), and what the mirror image and a finer unit give (`even_neg`, `even-scale`).
use Rattle.std.specs.Prelude.{◌≡◌, refl, Bool, true, false, cond, ℕ, suc, ◌+◌, ◌*◌, ◌%◌, ◌≤◌, ◌<◌, eqb, ℤ, pos, negsuc, neg_ℤ, nat_abs, ◌+ℤ◌, ◌-ℤ◌, ◌*ℤ◌, ◌≤ℤ◌, ◌<ℤ◌}
use Rattle.std.proofs.Common.{ap, ◌∙◌, subst, div-add-mod', mod-lt, mul-le-mul_right, mul-pos, suc-mul, le_of_suc-le-suc, lt_of_mul-lt-mul_right, arith, le→leb, eqb-true}
use Rattle.std.proofs.Math.Nat.{eq_of_mul-eq-mul_right}
use Rattle.std.proofs.lemmas.Bool.{eqb-false}
use Rattle.std.specs.Int.Signed.{≤ℤ_refl, lt_z, shr_z}
use Rattle.ints.specs.Diff.{diff, split, lt_z_true, lt_z_false}

-- ---- definitions

-- ⌊v / u⌋
abbrev pub floor : (v : ℤ) (u : ℕ) → ℤ
floor v u = shr_z v u

-- the nearest whole number, a half down
unfoldable pub earlier : (v : ℤ) (u : ℕ) → ℤ
earlier v u = neg_ℤ (floor (pos u -ℤ pos 2 *ℤ v) (2 * u))

-- a half up
unfoldable pub later : (v : ℤ) (u : ℕ) → ℤ
later v u = floor (pos 2 *ℤ v +ℤ pos u) (2 * u)

abbrev pub is_even : ℤ → Bool
is_even z = eqb (nat_abs z % 2) 0

-- a half to the even one
unfoldable pub even : (v : ℤ) (u : ℕ) → ℤ
unfolding earlier later
even v u = cond (is_even (earlier v u)) (earlier v u) (later v u)

-- ---- ⌊v / u⌋ is the q with q * u ≤ v < q * u + u
pub record Floor (v : ℤ) (u : ℕ) (q : ℤ) : Type 0 where
  pub below : (q *ℤ pos u) ≤ℤ v
  pub above : v <ℤ (q *ℤ pos u +ℤ pos u)

floor-is : (v : ℤ) (u : ℕ) → 0 < u → Floor v u (floor v u)
floor-is (pos a) u h =
    let e = div-add-mod' a u in
    let r = mod-lt a h in
    record { below = simp diff (omega arith); above = simp diff (omega arith) }
floor-is (negsuc a) u h =
    let e = div-add-mod' a u in
    let r = mod-lt a h in
    record { below = simp diff (omega arith); above = simp diff (omega arith) }

-- multiples of u are apart
apart_nat : (u x y : ℕ) → x * u < y * u + u → x ≤ y
apart_nat u x y h =
    le_of_suc-le-suc (lt_of_mul-lt-mul_right u (let e : suc y * u ≡ y * u + u = suc-mul y u in let r : x * u < suc y * u = omega arith in r))

pub antisym : (p q : ℤ) → p ≤ℤ q → q ≤ℤ p → p ≡ q
antisym = split _ λ a b. split _ λ c d. simp diff (omega arith)

-- ---- r is at most half away from v / u: 2 * |v - r * u| ≤ u
pub record WithinHalf (v : ℤ) (u : ℕ) (r : ℤ) : Type 0 where
  pub low : (pos 2 *ℤ v) ≤ℤ (pos 2 *ℤ (r *ℤ pos u) +ℤ pos u)
  pub high : (pos 2 *ℤ (r *ℤ pos u)) ≤ℤ (pos 2 *ℤ v +ℤ pos u)

-- v / u is the half below r, and the half above it
abbrev pub Under : (v : ℤ) (u : ℕ) (r : ℤ) → Type 0
Under v u r = pos 2 *ℤ (r *ℤ pos u) ≡ pos 2 *ℤ v +ℤ pos u

abbrev pub Over : (v : ℤ) (u : ℕ) (r : ℤ) → Type 0
Over v u r = pos 2 *ℤ v ≡ pos 2 *ℤ (r *ℤ pos u) +ℤ pos u

-- and at a half it is the lower, the upper, or the even one
pub record Earlier (v : ℤ) (u : ℕ) (r : ℤ) : Type 0 where
  pub within_half : WithinHalf v u r
  pub half : Under v u r → ⊥

pub record Later (v : ℤ) (u : ℕ) (r : ℤ) : Type 0 where
  pub within_half : WithinHalf v u r
  pub half : Over v u r → ⊥

pub record Even (v : ℤ) (u : ℕ) (r : ℤ) : Type 0 where
  pub within_half : WithinHalf v u r
  pub under : Under v u r → nat_abs r % 2 ≡ 0
  pub over : Over v u r → nat_abs r % 2 ≡ 0

-- ---- the definitions are that
earlier-of : (v : ℤ) (u : ℕ) (q : ℤ) → Floor (pos u -ℤ pos 2 *ℤ v) (2 * u) q → Earlier v u (neg_ℤ q)
earlier-of v u q f = record { within_half = record { low = low v q f.below; high = high v q f.above }; half = half v q f.above }
  where
    low : (v q : ℤ) → (q *ℤ pos (2 * u)) ≤ℤ (pos u -ℤ pos 2 *ℤ v) → (pos 2 *ℤ v) ≤ℤ (pos 2 *ℤ (neg_ℤ q *ℤ pos u) +ℤ pos u)
    low = split _ λ a b. split _ λ c d. simp diff (omega arith)

    high : (v q : ℤ) → (pos u -ℤ pos 2 *ℤ v) <ℤ (q *ℤ pos (2 * u) +ℤ pos (2 * u)) → (pos 2 *ℤ (neg_ℤ q *ℤ pos u)) ≤ℤ (pos 2 *ℤ v +ℤ pos u)
    high = split _ λ a b. split _ λ c d. simp diff (omega arith)

    half : (v q : ℤ) → (pos u -ℤ pos 2 *ℤ v) <ℤ (q *ℤ pos (2 * u) +ℤ pos (2 * u)) → Under v u (neg_ℤ q) → ⊥
    half = split _ λ a b. split _ λ c d. simp diff (omega arith)

later-of : (v : ℤ) (u : ℕ) (q : ℤ) → Floor (pos 2 *ℤ v +ℤ pos u) (2 * u) q → Later v u q
later-of v u q f = record { within_half = record { low = low v q f.above; high = high v q f.below }; half = half v q f.above }
  where
    low : (v q : ℤ) → (pos 2 *ℤ v +ℤ pos u) <ℤ (q *ℤ pos (2 * u) +ℤ pos (2 * u)) → (pos 2 *ℤ v) ≤ℤ (pos 2 *ℤ (q *ℤ pos u) +ℤ pos u)
    low = split _ λ a b. split _ λ c d. simp diff (omega arith)

    high : (v q : ℤ) → (q *ℤ pos (2 * u)) ≤ℤ (pos 2 *ℤ v +ℤ pos u) → (pos 2 *ℤ (q *ℤ pos u)) ≤ℤ (pos 2 *ℤ v +ℤ pos u)
    high = split _ λ a b. split _ λ c d. simp diff (omega arith)

    half : (v q : ℤ) → (pos 2 *ℤ v +ℤ pos u) <ℤ (q *ℤ pos (2 * u) +ℤ pos (2 * u)) → Over v u q → ⊥
    half = split _ λ a b. split _ λ c d. simp diff (omega arith)

twice_pos : (u : ℕ) → 0 < u → 0 < 2 * u
twice_pos u h = omega arith

earlier-is : (v : ℤ) (u : ℕ) → 0 < u → Earlier v u (earlier v u)
unfolding earlier
earlier-is v u h = earlier-of v u (floor (pos u -ℤ pos 2 *ℤ v) (2 * u)) (floor-is (pos u -ℤ pos 2 *ℤ v) (2 * u) (twice_pos u h))

later-is : (v : ℤ) (u : ℕ) → 0 < u → Later v u (later v u)
unfolding later
later-is v u h = later-of v u (floor (pos 2 *ℤ v +ℤ pos u) (2 * u)) (floor-is (pos 2 *ℤ v +ℤ pos u) (2 * u) (twice_pos u h))

-- ---- of two fractions, in order, whose nearest numbers are not, both are the half between the two numbers
pub record Between (v w : ℤ) (u : ℕ) (p q : ℤ) : Type 0 where
  pub same : v ≡ w
  pub under : Under v u p
  pub over : Over w u q
  pub next : p ≡ q +ℤ pos 1

between : (v w : ℤ) (u : ℕ) (p q : ℤ) → 0 < u → WithinHalf v u p → WithinHalf w u q → v ≤ℤ w → q <ℤ p → Between v w u p q
between v w u p q h m n k l = record {
  same = same v w p q m.high n.low k l;
  under = under v w p q m.high n.low k l;
  over = over v w p q m.high n.low k l;
  next = next v w p q m.high n.low k l;
}
  where
    same : (v w p q : ℤ) → (pos 2 *ℤ (p *ℤ pos u)) ≤ℤ (pos 2 *ℤ v +ℤ pos u) → (pos 2 *ℤ w) ≤ℤ (pos 2 *ℤ (q *ℤ pos u) +ℤ pos u) → v ≤ℤ w → q <ℤ p →
        v ≡ w
    same = split _ λ a b. split _ λ c d. split _ λ e f. split _ λ g i. simp diff (λ x y z t. omega (arith, mul-le-mul_right u t))

    under : (v w p q : ℤ) → (pos 2 *ℤ (p *ℤ pos u)) ≤ℤ (pos 2 *ℤ v +ℤ pos u) → (pos 2 *ℤ w) ≤ℤ (pos 2 *ℤ (q *ℤ pos u) +ℤ pos u) → v ≤ℤ w → q <ℤ p →
        Under v u p
    under = split _ λ a b. split _ λ c d. split _ λ e f. split _ λ g i. simp diff (λ x y z t. omega (arith, mul-le-mul_right u t))

    over : (v w p q : ℤ) → (pos 2 *ℤ (p *ℤ pos u)) ≤ℤ (pos 2 *ℤ v +ℤ pos u) → (pos 2 *ℤ w) ≤ℤ (pos 2 *ℤ (q *ℤ pos u) +ℤ pos u) → v ≤ℤ w → q <ℤ p →
        Over w u q
    over = split _ λ a b. split _ λ c d. split _ λ e f. split _ λ g i. simp diff (λ x y z t. omega (arith, mul-le-mul_right u t))

    next : (v w p q : ℤ) → (pos 2 *ℤ (p *ℤ pos u)) ≤ℤ (pos 2 *ℤ v +ℤ pos u) → (pos 2 *ℤ w) ≤ℤ (pos 2 *ℤ (q *ℤ pos u) +ℤ pos u) → v ≤ℤ w → q <ℤ p →
        p ≡ q +ℤ pos 1
    next =
        split _ λ a b. split _ λ c d. split _ λ e f. split _ λ g i. simp diff
        (λ x y z t. omega (arith, apart_nat u (e + i) (suc (g + f)) (omega arith)))

-- in order, unless the wrong order is absurd
ordered : (p q : ℤ) → (q <ℤ p → ⊥) → p ≤ℤ q
ordered p q n = go (lt_z q p) refl
  where
    go : (t : Bool) → lt_z q p ≡ t → p ≤ℤ q
    go true e = absurd (n (lt_z_true q p e))
    go false e = lt_z_false q p e

odd_next : (q : ℤ) → nat_abs q % 2 ≡ 0 → nat_abs (q +ℤ pos 1) % 2 ≡ 0 → ⊥
odd_next = split _ λ a b. simp diff (λ e f. omega arith)

even-next : (q : ℤ) → (nat_abs q % 2 ≡ 0 → ⊥) → nat_abs (q +ℤ pos 1) % 2 ≡ 0
even-next = split _ λ a b. simp diff (λ n. omega arith)

-- ---- a larger fraction's is no smaller, and so there is only one
module _ (v w : ℤ) (u : ℕ) (p q : ℤ) (h : 0 < u) (k : v ≤ℤ w) where
  earlier_order : Earlier v u p → Earlier w u q → p ≤ℤ q
  earlier_order m n = ordered p q (λ l. m.half (between v w u p q h m.within_half n.within_half k l).under)

  even_order : Even v u p → Even w u q → p ≤ℤ q
  even_order m n = ordered p q (λ l.
      let b = between v w u p q h m.within_half n.within_half k l in
      odd_next q (n.over b.over) (subst (λ z. nat_abs z % 2 ≡ 0) b.next (m.under b.under)))

even_is' : (v : ℤ) (u : ℕ) → 0 < u → (e l : ℤ) → Earlier v u e → Later v u l → Even v u (cond (is_even e) e l)
even_is' v u h e l m n = go (is_even e) refl
  where
    before : (v l : ℤ) → Under v u l → Earlier v u (l -ℤ pos 1)
    before v l k = record { within_half = record { low = low v l k; high = high v l k }; half = half v l k }
      where
        low : (v l : ℤ) → Under v u l → (pos 2 *ℤ v) ≤ℤ (pos 2 *ℤ ((l -ℤ pos 1) *ℤ pos u) +ℤ pos u)
        low = split _ λ a b. split _ λ c d. simp diff (omega arith)

        high : (v l : ℤ) → Under v u l → (pos 2 *ℤ ((l -ℤ pos 1) *ℤ pos u)) ≤ℤ (pos 2 *ℤ v +ℤ pos u)
        high = split _ λ a b. split _ λ c d. simp diff (omega arith)

        half : (v l : ℤ) → Under v u l → Under v u (l -ℤ pos 1) → ⊥
        half = split _ λ a b. split _ λ c d. simp diff (λ x y. omega arith)

    go : (t : Bool) → is_even e ≡ t → Even v u (cond t e l)
    go true i = record { within_half = m.within_half; under = λ k. absurd (m.half k); over = λ k. eqb-true (nat_abs e % 2) 0 i }
    go false i = record {
      within_half = n.within_half;
      under = λ k.
          let b = before v l k in
          let s : e ≡ l -ℤ pos 1 =
          antisym e (l -ℤ pos 1) (earlier_order v v u e (l -ℤ pos 1) h (≤ℤ_refl v) m b) (earlier_order v v u (l -ℤ pos 1) e h (≤ℤ_refl v) b m) in
          subst (λ z. nat_abs z % 2 ≡ 0) (ap (λ z. z +ℤ pos 1) s ∙ back l) (even-next e (eqb-false (nat_abs e % 2) 0 i));
      over = λ k. absurd (n.half k);
    }
      where
        back : (l : ℤ) → l -ℤ pos 1 +ℤ pos 1 ≡ l
        back = split _ λ a b. simp diff (omega arith)

pub even-is : (v : ℤ) (u : ℕ) → 0 < u → Even v u (even v u)
unfolding even
even-is v u h = even_is' v u h (earlier v u) (later v u) (earlier-is v u h) (later-is v u h)

-- ---- the laws

-- the only one
pub even_only : (v : ℤ) (u : ℕ) (r : ℤ) → 0 < u → Even v u r → even v u ≡ r
even_only v u r h m =
    antisym (even v u) r (even_order v v u (even v u) r h (≤ℤ_refl v) (even-is v u h) m)
    (even_order v v u r (even v u) h (≤ℤ_refl v) m (even-is v u h))

-- a larger fraction's is no smaller
pub even_mono : (v w : ℤ) (u : ℕ) → 0 < u → v ≤ℤ w → even v u ≤ℤ even w u
even_mono v w u h k = even_order v w u (even v u) (even w u) h k (even-is v u h) (even-is w u h)

-- a whole number is its own
whole : (u : ℕ) → 0 < u → (r : ℤ) → WithinHalf (r *ℤ pos u) u r
whole u h r = record { low = under-sum r; high = under-sum r }
  where
    under-sum : (r : ℤ) → (pos 2 *ℤ (r *ℤ pos u)) ≤ℤ (pos 2 *ℤ (r *ℤ pos u) +ℤ pos u)
    under-sum = split _ λ a b. simp diff (omega arith)

no_half : (u : ℕ) → 0 < u → (z : ℤ) → z ≡ z +ℤ pos u → ⊥
no_half u h = split _ λ a b. simp diff (omega arith)

pub even_own : (u : ℕ) (r : ℤ) → 0 < u → even (r *ℤ pos u) u ≡ r
even_own u r h =
    even_only (r *ℤ pos u) u r h
    (record {
      within_half = whole u h r;
      under = λ k. absurd (no_half u h (pos 2 *ℤ (r *ℤ pos u)) k);
      over = λ k. absurd
          (no_half u h (pos 2 *ℤ (r *ℤ pos u)) k);
    })

-- so whole bounds stay
pub even-from : (v : ℤ) (u : ℕ) (r : ℤ) → 0 < u → (r *ℤ pos u) ≤ℤ v → r ≤ℤ even v u
even-from v u r h k = subst (λ z. z ≤ℤ even v u) (even_own u r h) (even_mono (r *ℤ pos u) v u h k)

pub even_upto : (v : ℤ) (u : ℕ) (r : ℤ) → 0 < u → v ≤ℤ (r *ℤ pos u) → even v u ≤ℤ r
even_upto v u r h k = subst (λ z. even v u ≤ℤ z) (even_own u r h) (even_mono v (r *ℤ pos u) u h k)

-- ---- the mirror image's is the mirror image
within-half_neg : (v : ℤ) (u : ℕ) (r : ℤ) → WithinHalf v u r → WithinHalf (neg_ℤ v) u (neg_ℤ r)
within-half_neg v u r m = record { low = low v r m.high; high = high v r m.low }
  where
    low : (v r : ℤ) → (pos 2 *ℤ (r *ℤ pos u)) ≤ℤ (pos 2 *ℤ v +ℤ pos u) → (pos 2 *ℤ neg_ℤ v) ≤ℤ (pos 2 *ℤ (neg_ℤ r *ℤ pos u) +ℤ pos u)
    low = split _ λ a b. split _ λ c d. simp diff (omega arith)

    high : (v r : ℤ) → (pos 2 *ℤ v) ≤ℤ (pos 2 *ℤ (r *ℤ pos u) +ℤ pos u) → (pos 2 *ℤ (neg_ℤ r *ℤ pos u)) ≤ℤ (pos 2 *ℤ neg_ℤ v +ℤ pos u)
    high = split _ λ a b. split _ λ c d. simp diff (omega arith)

over_neg : (u : ℕ) (v r : ℤ) → Under (neg_ℤ v) u (neg_ℤ r) → Over v u r
over_neg u = split _ λ a b. split _ λ c d. simp diff (omega arith)

under_neg : (u : ℕ) (v r : ℤ) → Over (neg_ℤ v) u (neg_ℤ r) → Under v u r
under_neg u = split _ λ a b. split _ λ c d. simp diff (omega arith)

pub even_neg : (v : ℤ) (u : ℕ) → 0 < u → even (neg_ℤ v) u ≡ neg_ℤ (even v u)
even_neg v u h =
    let m = even-is v u h in
    even_only (neg_ℤ v) u (neg_ℤ (even v u)) h
    (record {
      within_half = within-half_neg v u (even v u) m.within_half;
      under = λ k. parity (even v u) (m.over (over_neg u v (even v u) k));
      over = λ k. parity (even v u) (m.under (under_neg u v (even v u) k));
    })
  where
    parity : (r : ℤ) → nat_abs r % 2 ≡ 0 → nat_abs (neg_ℤ r) % 2 ≡ 0
    parity = split _ λ a b. simp diff (omega arith)

-- ---- natural numbers
-- n is a / u's
pub even_nat : (a u n : ℕ) → 0 < u → 2 * a ≤ 2 * (n * u) + u → 2 * (n * u) ≤ 2 * a + u → (2 * (n * u) ≡ 2 * a + u → n % 2 ≡ 0) →
    (2 * a ≡ 2 * (n * u) + u → n % 2 ≡ 0)
    → even (pos a) u ≡ pos n
even_nat a u n h low high under over = even_only (pos a) u (pos n) h (record {
  within_half = record { low = record { le = le→leb (2 * a) (2 * (n * u) + u) low }; high = record { le = le→leb (2 * (n * u)) (2 * a + u) high } };
  under = λ k. under (ap nat_abs k);
  over = λ k. over (ap nat_abs k);
})

-- the same fraction, by a larger unit
module _ (a u c : ℕ) (h : 0 < u) (k : 0 < c) where
  within-half-scale : (r : ℤ) → WithinHalf (pos a) u r → WithinHalf (pos (a * c)) (u * c) r
  within-half-scale r m = record { low = low r m.low; high = high r m.high }
    where
      low : (r : ℤ) → (pos 2 *ℤ pos a) ≤ℤ (pos 2 *ℤ (r *ℤ pos u) +ℤ pos u) → (pos 2 *ℤ pos (a * c)) ≤ℤ (pos 2 *ℤ (r *ℤ pos (u * c)) +ℤ pos (u * c))
      low = split _ λ p q. simp diff (λ e. omega (arith, mul-le-mul_right c e))

      high : (r : ℤ) → (pos 2 *ℤ (r *ℤ pos u)) ≤ℤ (pos 2 *ℤ pos a +ℤ pos u) → (pos 2 *ℤ (r *ℤ pos (u * c))) ≤ℤ (pos 2 *ℤ pos (a * c) +ℤ pos (u * c))
      high = split _ λ p q. simp diff (λ e. omega (arith, mul-le-mul_right c e))

  under-scale : (r : ℤ) → Under (pos (a * c)) (u * c) r → Under (pos a) u r
  under-scale = split _ λ p q. simp diff (λ e. eq_of_mul-eq-mul_right c k _ _ (omega arith))

  over-scale : (r : ℤ) → Over (pos (a * c)) (u * c) r → Over (pos a) u r
  over-scale = split _ λ p q. simp diff (λ e. eq_of_mul-eq-mul_right c k _ _ (omega arith))

  pub even-scale : even (pos (a * c)) (u * c) ≡ even (pos a) u
  even-scale =
      let r = even (pos a) u in
      let m = even-is (pos a) u h in
      even_only (pos (a * c)) (u * c) r (mul-pos h k)
      (record { within_half = within-half-scale r m.within_half; under = λ e. m.under (under-scale r e); over = λ e. m.over (over-scale r e) })

-- ---- known values: 5/2 and 7/2, -5/2 and -7/2, and 9/4
pub known-even : (even (pos 5) 2 ≡ pos 2) × (even (pos 7) 2 ≡ pos 4) × (even (negsuc 4) 2 ≡ negsuc 1) ×
    (even (negsuc 6) 2 ≡ negsuc 3) × (even (pos 9) 4 ≡ pos 2)
unfolding even
known-even = (refl, refl, refl, refl, refl)
