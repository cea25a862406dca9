-- What the code needs of the listing, and that a number's digits read back give the number.
use Rattle.std.specs.Prelude.{◌≡◌, refl, Bool, true, false, List, [], ◌∷◌, ◌++◌, ltb, eqb, ℤ, pos, negsuc, neg_ℤ, nat_abs, ◌≤ℤ◌, ◌<ℤ◌, length, drop, get_or, set}
use Rattle.std.proofs.Common.{sym, ◌∙◌, add-one, div-lt_iff_lt-mul, not-suc-le-zero, le_refl, pow-suc, ltb→lt, lt-ltb, le-ltb, ltb-true, ltb-false, ne_eqb}
use Rattle.std.proofs.Math.Path.{ap}
use Prim.Native.Nat.{ℕ, zero, suc, ◌+◌, ◌*◌, ◌-◌, ◌^◌, ◌/◌, ◌%◌, ◌≤◌, ◌<◌}
use native.Mathlib.Omega.{arith}
use Rattle.std.proofs.Math.Nat.{div-add-mod}
use Rattle.std.specs.Int.Signed.{mag}
use Rattle.std.proofs.Math.ListN.{length-append}
use Rattle.folds.specs.Fold.{pick, pick_true, pick_false}
use Rattle.block.specs.Block.{Block, word}
use Rattle.block.specs.Plan.{time}
use Rattle.listing.specs.Listing.{digit, digits, decimal, integer, word_line, word_lines}
use Rattle.listing.specs.Appended.{Room, Appended, appended_none, room-first, room-next, appended_two, one_byte}

-- ---- decimal digits, one by one
tenth : (n k : ℕ) → 10 ≤ n → n < suc k → n / 10 < k
tenth n k h l = omega (arith, div-add-mod n 10)

digits-small : (k n : ℕ) → n < 10 → digits (suc k) n ≡ digit n ∷ []
unfolding digits
digits-small k n h = sym (pick_true _ _ (lt-ltb n 10 h) refl)

digits_large : (k n : ℕ) → 10 ≤ n → digits (suc k) n ≡ digits k (n / 10) ++ (digit (n % 10) ∷ [])
unfolding digits
digits_large k n h = sym (pick_false _ _ (le-ltb n 10 h) refl)

-- whatever the bound on their number
digits-same : (k l n : ℕ) → n < k → n < l → digits k n ≡ digits l n
digits-same zero l n h i = absurd (not-suc-le-zero h)
digits-same (suc k) zero n h i = absurd (not-suc-le-zero i)
digits-same (suc k) (suc l) n h i = go (ltb n 10) refl (digits-same k l (n / 10))
  where
    go : (t : Bool) → ltb n 10 ≡ t → (n / 10 < k → n / 10 < l → digits k (n / 10) ≡ digits l (n / 10)) → digits (suc k) n ≡ digits (suc l) n
    go true e same = let s = ltb-true n 10 e in digits-small k n s ∙ sym (digits-small l n s)
    go false e same =
        let s = ltb-false n 10 e in
        digits_large k n s
        ∙ ap (λ (d : List ℕ). d ++ (digit (n % 10) ∷ [])) (same (tenth n k s h) (tenth n l s i))
        ∙ sym (digits_large l n s)

pub decimal-small : (n : ℕ) → n < 10 → decimal n ≡ digit n ∷ []
unfolding decimal
decimal-small n h = digits-small n n h

pub decimal_large : (n : ℕ) → 10 ≤ n → decimal n ≡ decimal (n / 10) ++ (digit (n % 10) ∷ [])
unfolding decimal
decimal_large n h =
    digits_large n n h
    ∙ ap (λ (d : List ℕ). d ++ (digit (n % 10) ∷ [])) (digits-same n (suc (n / 10)) (n / 10) (tenth n n h (omega arith)) (omega arith))

-- a digit of n goes to the slice o from `at` on: it is the only one, or k is what the slice holds with the others, which end at m
module _ {at n : ℕ} {o : List ℕ} (R : Room at (decimal n) o) where
  module _ (h : n < 10) where
    pub room-digit : at < length o
    room-digit = omega (arith, R.fits, ap length (decimal-small n h))

    pub only_digit : Appended at (decimal n) o (at + 1) (set o at (digit n))
    only_digit = rw (decimal-small n h) (one_byte o at (digit n) room-digit)

  module _ (h : 10 ≤ n) where
    room_large : Room at (decimal (n / 10) ++ (digit (n % 10) ∷ [])) o
    room_large = rw (← decimal_large n h) R

    pub room-digits : Room at (decimal (n / 10)) o
    room-digits = room-first (decimal (n / 10)) (digit (n % 10) ∷ []) room_large

    module _ {m : ℕ} {k : List ℕ} (A : Appended at (decimal (n / 10)) o m k) where
      pub room-last : m < length k
      room-last = let r = room-next (decimal (n / 10)) (digit (n % 10) ∷ []) room_large A in omega (arith, r.fits)

      pub last-digit : Appended at (decimal n) o (m + 1) (set k m (digit (n % 10)))
      last-digit = rw (decimal_large n h) (appended_two (decimal (n / 10)) (digit (n % 10) ∷ []) room_large A
          (one_byte k m (digit (n % 10)) room-last))

-- a number of at most k + 1 digits
pub decimal-short : (k n : ℕ) → n < 10 ^ suc k → length (decimal n) ≤ suc k
decimal-short zero n h = omega (arith, ap length (decimal-small n (omega arith)))
decimal-short (suc k) n h = go (ltb n 10) refl (decimal-short k (n / 10))
  where
    go : (t : Bool) → ltb n 10 ≡ t → (n / 10 < 10 ^ suc k → length (decimal (n / 10)) ≤ suc k) → length (decimal n) ≤ suc (suc k)
    go true e short = omega (arith, ap length (decimal-small n (ltb-true n 10 e)))
    go false e short =
        let l = short ((div-lt_iff_lt-mul {k = 10} {x = n} {y = 10 ^ suc k} (omega arith)).1 (omega (arith, pow-suc 10 (suc k)))) in
        omega (arith, ap length (decimal_large n (ltb-false n 10 e)), length-append (decimal (n / 10)) (digit (n % 10) ∷ []))

-- ---- what is written is read back: the number of decimal digits, after n
unfoldable pub number_of : (n : ℕ) (digits : List ℕ) → ℕ
number_of n [] = n
number_of n (d ∷ s) = number_of (10 * n + (d - 48)) s

number_of-append : (n : ℕ) (s t : List ℕ) → number_of n (s ++ t) ≡ number_of (number_of n s) t
unfolding number_of
number_of-append n [] t = refl
number_of-append n (d ∷ s) t = number_of-append (10 * n + (d - 48)) s t

digits_back : (k n : ℕ) → n < k → number_of 0 (digits k n) ≡ n
unfolding number_of
digits_back zero n h = absurd (not-suc-le-zero h)
digits_back (suc k) n h = go (ltb n 10) refl (digits_back k (n / 10))
  where
    go : (t : Bool) → ltb n 10 ≡ t → (n / 10 < k → number_of 0 (digits k (n / 10)) ≡ n / 10) → number_of 0 (digits (suc k) n) ≡ n
    go true e back = ap (number_of 0) (digits-small k n (ltb-true n 10 e)) ∙ omega arith
    go false e back =
        let s = ltb-false n 10 e in
        ap (number_of 0) (digits_large k n s)
        ∙ number_of-append 0 (digits k (n / 10)) (digit (n % 10) ∷ [])
        ∙ omega (arith, back (tenth n k s h), div-add-mod n 10)

pub decimal_back : (n : ℕ) → number_of 0 (decimal n) ≡ n
unfolding decimal
decimal_back n = digits_back (suc n) n (omega arith)

-- and a signed one
unfoldable pub integer_of : List ℕ → ℤ
integer_of s = pick (eqb (get_or s 0 0) 45) (neg_ℤ (pos (number_of 0 (drop 1 s)))) (pos (number_of 0 s))

first-digit : (k n : ℕ) → n < k → 48 ≤ get_or (digits k n) 0 0
first-digit zero n h = absurd (not-suc-le-zero h)
first-digit (suc k) n h = go (ltb n 10) refl (first-digit k (n / 10))
  where
    go : (t : Bool) → ltb n 10 ≡ t → (n / 10 < k → 48 ≤ get_or (digits k (n / 10)) 0 0) → 48 ≤ get_or (digits (suc k) n) 0 0
    go true e first = rw (digits-small k n (ltb-true n 10 e)) (omega arith)
    go false e first =
        let s = ltb-false n 10 e in
        let f = first (tenth n k s h) in
        rw (digits_large k n s) (longer (digits k (n / 10)) f)
      where
        longer : (d : List ℕ) → 48 ≤ get_or d 0 0 → 48 ≤ get_or (d ++ (digit (n % 10) ∷ [])) 0 0
        longer [] f = omega arith
        longer (x ∷ d) f = f

pub integer_back : (z : ℤ) → integer_of (integer z) ≡ z
unfolding integer_of integer decimal
integer_back (pos n) =
    let f = first-digit (suc n) n (omega arith) in
    sym (pick_false _ _ (ne_eqb (get_or (digits (suc n) n) 0 0) 45 (λ e. omega (arith, f, e))) (ap pos (sym (digits_back (suc n) n (omega arith)))))
integer_back (negsuc n) = sym (pick_true _ _ refl (ap (λ (m : ℕ). neg_ℤ (pos m)) (sym (digits_back (suc (suc n)) (suc n) (omega arith)))))

-- ---- signed numbers
pub integer-from : (z : ℤ) → pos 0 ≤ℤ z → (z ≡ pos (nat_abs z)) × (integer z ≡ decimal (nat_abs z))
unfolding integer
integer-from (pos n) h = (refl, refl)
integer-from (negsuc n) h = absurd h.le

pub integer-below : (z : ℤ) → z <ℤ pos 0 → integer z ≡ (45 ∷ []) ++ decimal (mag z + 1)
unfolding integer
integer-below (pos n) h = absurd (not-suc-le-zero (ltb→lt n 0 h.lt))
integer-below (negsuc n) h = ap (λ (m : ℕ). 45 ∷ decimal m) (sym (add-one n))

-- below 0: the sign goes to the slice, then the digits
module _ {at : ℕ} {z : ℤ} {o : List ℕ} (R : Room at (integer z) o) (h : z <ℤ pos 0) where
  room-signed : Room at ((45 ∷ []) ++ decimal (mag z + 1)) o
  room-signed = rw (← integer-below z h) R

  pub room-sign : at < length o
  room-sign = let r = room-first (45 ∷ []) (decimal (mag z + 1)) room-signed in omega (arith, r.fits)

  pub room-size : at + 1 + length (decimal (mag z + 1)) ≤ length o
  room-size = omega (arith, room-signed.fits, length-append (45 ∷ []) (decimal (mag z + 1)))

  pub signed-written : {r : ℕ} {l : List ℕ} → Appended (at + 1) (decimal (mag z + 1)) (set o at 45) r l → Appended at (integer z) o r l
  signed-written A = rw (integer-below z h) (appended_two (45 ∷ []) (decimal (mag z + 1)) room-signed (one_byte o at 45 room-sign) A)

-- ---- the words' lines: the loop that writes them, at its start and in a turn
module _ (b : Block) (x : List ℤ) where
  abbrev line : ℕ → List ℕ
  line i = word_line i (word b i).key (time x i)

  lines_next : (i : ℕ) → word_lines (i + 1) b x ≡ word_lines i b x ++ line i
  unfolding word_lines
  lines_next i = ap (λ (n : ℕ). word_lines n b x) (add-one i)

  lines_le : (d i : ℕ) → length (word_lines i b x) ≤ length (word_lines (d + i) b x)
  unfolding word_lines
  lines_le zero i = let z : 0 + i ≡ i = omega arith in rw z (le_refl _)
  lines_le (suc d) i =
      let z : suc d + i ≡ suc (d + i) = omega arith in
      rw z (omega (arith, lines_le d i, length-append (word_lines (d + i) b x) (line (d + i))))

  pub lines_none : (at : ℕ) (o : List ℕ) → Appended at (word_lines 0 b x) o at o
  unfolding word_lines
  lines_none at o = appended_none at o

  module _ {at i n : ℕ} {o : List ℕ} (R : Room at (word_lines n b x) o) (h : i < n) where
    room_lines : Room at (word_lines i b x ++ line i) o
    room_lines =
        let z : n - (i + 1) + (i + 1) ≡ n = omega arith in
        let l : length (word_lines (i + 1) b x) ≤ length (word_lines n b x) = rw z at (lines_le (n - (i + 1)) (i + 1)) in
        record { fits = omega (arith, R.fits, ap length (lines_next i)) }

    module _ {m : ℕ} {k : List ℕ} (A : Appended at (word_lines i b x) o m k) where
      pub room-line : Room m (line i) k
      room-line = room-next (word_lines i b x) (line i) room_lines A

      pub lines_turn : {r : ℕ} {l : List ℕ} → Appended m (line i) k r l → Appended at (word_lines (i + 1) b x) o r l
      lines_turn B = rw (lines_next i) (appended_two (word_lines i b x) (line i) room_lines A B)
