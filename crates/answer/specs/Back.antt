-- Reading an answer file (File.antt has document 01's words), and that what is written is read back.
use Rattle.std.specs.Prelude.{◌≡◌, Bool, true, ℕ, zero, suc, ◌+◌, ◌*◌, ◌-◌, ◌/◌, ◌%◌, ◌≤◌, ◌<◌, leb, length, take, drop, get_or, ℤ, pos, negsuc}
use Rattle.std.proofs.Math.Path.{refl, sym, ap, ap₂}
use Rattle.std.proofs.Common.{◌∙◌, suc-le-suc, arith, add_comm, div-lt_iff_lt-mul, mul_comm, lit≤, drop-drop, eq-eqb, le-leb}
use mathlib.Core.List.{List, [], ◌∷◌, ◌++◌, append-nil}
use Rattle.std.proofs.Math.Nat.{div-add-mod, mul-div_right}
use Rattle.std.proofs.Math.Dec.{eqb}
use Rattle.std.proofs.Math.ListN.{length-append}
use Rattle.std.proofs.Math.Seq.{take_at, drop_at}
use Rattle.std.specs.Int.Signed.{mag}
use Rattle.folds.specs.Fold.{both, both-on, pick, pick_true}
use Rattle.ints.specs.Diff.{is_neg, minus-is}
use Rattle.format.specs.Read.{signed}
use Rattle.format.specs.Signed.{signed-small, signed_large}
use Rattle.answer.specs.Code.{code-lt}
use Rattle.answer.specs.Pasted.{length-bytes, in8-wide, length-times, length-prices}
use Rattle.answer.specs.File.{Answer, bytes, code, in4, in8, each, field, file}

-- ---- "Numbers of more than one byte go low byte first"
unfoldable pub of_bytes : List ℕ → ℕ
of_bytes [] = 0
of_bytes (b ∷ bs) = b + 256 * of_bytes bs

-- n signed numbers of k bytes each; `half` is the first number that stands for a negative one
unfoldable pub signed_numbers : (half k n : ℕ) (s : List ℕ) → List ℤ
signed_numbers half k zero s = []
signed_numbers half k (suc n) s = signed half (of_bytes (take k s)) ∷ signed_numbers half k n (drop k s)

-- ---- the field that s begins with: its tag, its body, and what follows
abbrev pub tag_of : List ℕ → ℕ
tag_of s = of_bytes (take 1 s)

abbrev pub length_of : List ℕ → ℕ
length_of s = of_bytes (take 2 (drop 1 s))

unfoldable pub body_of : List ℕ → List ℕ
body_of s = take (length_of s) (drop 3 s)

unfoldable pub rest : List ℕ → List ℕ
rest s = drop (3 + length_of s) s

-- a whole field of this tag, whose length passes the test, as one of whole numbers of k bytes does
unfoldable pub is_field : (tag : ℕ) (ok : ℕ → Bool) (s : List ℕ) → Bool
is_field tag ok s = both (eqb (tag_of s) tag) (both (leb (3 + length_of s) (length s)) (ok (length_of s)))

unfoldable pub whole_of : (k n : ℕ) → Bool
whole_of k n = eqb (n / k * k) n

-- ---- the file: the four fields in their order, and nothing more
pub data Found : Type 0 where
  answer : Answer → Found
  none : Found

unfoldable pub is_answer : List ℕ → Bool
is_answer s =
    both (is_field 17 (whole_of 4) s)
    (both (is_field 18 (whole_of 8) (rest s))
    (both (is_field 19 (eqb 8) (rest (rest s)))
    (both (is_field 20 (eqb 2) (rest (rest (rest s))))
    (eqb (length (rest (rest (rest (rest s))))) 0))))

abbrev pub answer_in : List ℕ → Answer
answer_in s = record {
  times = signed_numbers 2147483648 4 (length (body_of s) / 4) (body_of s);
  prices = signed_numbers 9223372036854775808 8 (length (body_of (rest s)) / 8) (body_of (rest s));
  gap = signed 9223372036854775808 (of_bytes (body_of (rest (rest s))));
  passes = of_bytes (body_of (rest (rest (rest s))));
}

unfoldable pub read_answer : List ℕ → Found
read_answer s = pick (is_answer s) (answer (answer_in s)) none

-- ---- what is written is read back
pub record Small (half : ℕ) (x : List ℤ) : Type 0 where
  pub fits : (k : ℕ) → k < length x → mag (get_or x k (pos 0)) < half

pub record Sized (a : Answer) : Type 0 where
  pub times : length a.times ≤ 32
  pub prices : length a.prices ≤ 25
  pub each_time : Small 2147483648 a.times
  pub each_price : Small 9223372036854775808 a.prices
  pub gap : mag a.gap < 9223372036854775808
  pub passes : a.passes < 65536

-- k bytes hold every number below 256 ^ k
top : ℕ → ℕ
top zero = 1
top (suc k) = 256 * top k

of_bytes_bytes : (k n : ℕ) → n < top k → of_bytes (bytes k n) ≡ n
unfolding of_bytes bytes top
of_bytes_bytes zero n h = omega arith
of_bytes_bytes (suc k) n h =
    ap (λ (m : ℕ). n % 256 + 256 * m) (of_bytes_bytes k (n / 256) ((div-lt_iff_lt-mul (omega arith)).1 (omega arith)))
    ∙ add_comm (n % 256) (256 * (n / 256)) ∙ div-add-mod n 256

signed-code : (half : ℕ) (z : ℤ) → mag z < half → signed half (code half z) ≡ z
unfolding code
signed-code half (pos n) h = signed-small half n h
signed-code half (negsuc n) h =
    let m : half ≤ half + half - suc n = omega arith in
    signed_large half (half + half - suc n) m
    ∙ minus-is (half + half - suc n) (half + half)
    ∙ is_neg (half + half - suc n) (half + half) n (omega arith)

of_bytes-code : (half k : ℕ) (z : ℤ) → half + half ≤ top k → mag z < half → signed half (of_bytes (bytes k (code half z))) ≡ z
of_bytes-code half k z t h = ap (signed half) (of_bytes_bytes k (code half z) (omega (arith, code-lt half z h))) ∙ signed-code half z h

module _ (half k : ℕ) (t : half + half ≤ top k) where
  abbrev coded : ℤ → List ℕ
  coded z = bytes k (code half z)

  signed_numbers-each : (x : List ℤ) → Small half x → signed_numbers half k (length x) (each coded x) ≡ x
  unfolding each signed_numbers
  signed_numbers-each [] S = refl
  signed_numbers-each (z ∷ x) S =
      ap₂ ◌∷◌
      (ap (λ (l : List ℕ). signed half (of_bytes l)) (take_at (coded z) (each coded x) k (length-bytes k (code half z)))
      ∙ of_bytes-code half k z t (S.fits 0 (omega arith)))
      (ap (signed_numbers half k (length x)) (drop_at (coded z) (each coded x) k (length-bytes k (code half z)))
      ∙ signed_numbers-each x (record { fits = λ j l. S.fits (suc j) (suc-le-suc l) }))

-- a field in front of r
module _ (t : ℕ) (b r : List ℕ) (small : t < 256) (short : length b < 65536) where
  abbrev s : List ℕ
  s = field t b ++ r

  tag_back : tag_of s ≡ t
  unfolding field bytes top
  tag_back = of_bytes_bytes 1 t small

  length_back : length_of s ≡ length b
  unfolding field bytes top
  length_back = of_bytes_bytes 2 (length b) short

  body_back : body_of s ≡ b
  unfolding body_of field bytes
  body_back = take_at b r (length_of s) (sym length_back)

  rest_back : rest s ≡ r
  unfolding rest field bytes
  rest_back = sym (drop-drop (length_of s) 3 s) ∙ drop_at b r (length_of s) (sym length_back)

  whole_back : 3 + length_of s ≤ length s
  unfolding field bytes
  whole_back = omega (arith, length_back, length-append b r)

  field_back : (ok : ℕ → Bool) → ok (length b) ≡ true → is_field t ok s ≡ true
  unfolding is_field
  field_back ok e = sym (both-on (eq-eqb _ _ tag_back) (both-on (le-leb _ _ whole_back) (sym (ap ok length_back ∙ e))))

-- n pieces of k bytes
pieces : (k n : ℕ) → 0 < k → whole_of k (k * n) ≡ true
unfolding whole_of
pieces k n h = eq-eqb _ _ (ap (λ (m : ℕ). m * k) (mul-div_right n h) ∙ mul_comm n k)

module _ (a : Answer) (S : Sized a) where
  abbrev times : List ℕ
  times = each in4 a.times

  abbrev prices : List ℕ
  prices = each in8 a.prices

  abbrev f₂₀ : List ℕ
  f₂₀ = field 20 (bytes 2 a.passes)

  abbrev f₁₉ : List ℕ
  f₁₉ = field 19 (in8 a.gap) ++ f₂₀

  abbrev f₁₈ : List ℕ
  f₁₈ = field 18 prices ++ f₁₉

  short₁ : length times < 65536
  short₁ = omega (arith, length-times a.times, S.times)

  short₂ : length prices < 65536
  short₂ = omega (arith, length-prices a.prices, S.prices)

  short₃ : length (in8 a.gap) < 65536
  short₃ = omega (arith, in8-wide a.gap)

  short₄ : length (bytes 2 a.passes) < 65536
  short₄ = omega (arith, length-bytes 2 a.passes)

  rest₁ : rest (file a) ≡ f₁₈
  unfolding file
  rest₁ = rest_back 17 times f₁₈ (lit≤ tt) short₁

  rest₂ : rest (rest (file a)) ≡ f₁₉
  rest₂ = ap rest rest₁ ∙ rest_back 18 prices f₁₉ (lit≤ tt) short₂

  rest₃ : rest (rest (rest (file a))) ≡ f₂₀ ++ []
  rest₃ = ap rest rest₂ ∙ rest_back 19 (in8 a.gap) f₂₀ (lit≤ tt) short₃ ∙ sym (append-nil f₂₀)

  rest₄ : rest (rest (rest (rest (file a)))) ≡ []
  rest₄ = ap rest rest₃ ∙ rest_back 20 (bytes 2 a.passes) [] (lit≤ tt) short₄

  whole₁ : whole_of 4 (length times) ≡ true
  whole₁ = ap (whole_of 4) (length-times a.times) ∙ pieces 4 (length a.times) (lit≤ tt)

  whole₂ : whole_of 8 (length prices) ≡ true
  whole₂ = ap (whole_of 8) (length-prices a.prices) ∙ pieces 8 (length a.prices) (lit≤ tt)

  is-answer : is_answer (file a) ≡ true
  unfolding is_answer file
  is-answer =
      sym (both-on (field_back 17 times f₁₈ (lit≤ tt) short₁ (whole_of 4) whole₁)
      (both-on (ap (is_field 18 (whole_of 8)) rest₁ ∙ field_back 18 prices f₁₉ (lit≤ tt) short₂ (whole_of 8) whole₂)
      (both-on
      (ap (is_field 19 (eqb 8)) rest₂ ∙ field_back 19 (in8 a.gap) f₂₀ (lit≤ tt) short₃ (eqb 8) (ap (eqb 8) (in8-wide a.gap)))
      (both-on
      (ap (is_field 20 (eqb 2)) rest₃
      ∙ field_back 20 (bytes 2 a.passes) [] (lit≤ tt) short₄ (eqb 2) (ap (eqb 2) (length-bytes 2 a.passes)))
      (sym (ap (λ (l : List ℕ). eqb (length l) 0) rest₄))))))

  answer-is : answer_in (file a) ≡ a
  unfolding file top
  answer-is = λ i. record { times = t i; prices = p i; gap = g i; passes = n i }
    where
      t : signed_numbers 2147483648 4 (length (body_of (file a)) / 4) (body_of (file a)) ≡ a.times
      t = ap (λ (b : List ℕ). signed_numbers 2147483648 4 (length b / 4) b) (body_back 17 times f₁₈ (lit≤ tt) short₁)
          ∙ ap (λ (m : ℕ). signed_numbers 2147483648 4 m times)
          (ap (λ (m : ℕ). m / 4) (length-times a.times) ∙ mul-div_right (length a.times) (lit≤ tt))
          ∙ signed_numbers-each 2147483648 4 (lit≤ tt) a.times S.each_time

      p : signed_numbers 9223372036854775808 8 (length (body_of (rest (file a))) / 8) (body_of (rest (file a))) ≡ a.prices
      p = ap (λ (b : List ℕ). signed_numbers 9223372036854775808 8 (length b / 8) b) (ap body_of rest₁ ∙ body_back 18 prices f₁₉ (lit≤ tt) short₂)
          ∙ ap (λ (m : ℕ). signed_numbers 9223372036854775808 8 m prices)
          (ap (λ (m : ℕ). m / 8) (length-prices a.prices) ∙ mul-div_right (length a.prices) (lit≤ tt))
          ∙ signed_numbers-each 9223372036854775808 8 (lit≤ tt) a.prices S.each_price

      g : signed 9223372036854775808 (of_bytes (body_of (rest (rest (file a))))) ≡ a.gap
      g = ap (λ (b : List ℕ). signed 9223372036854775808 (of_bytes b)) (ap body_of rest₂ ∙ body_back 19 (in8 a.gap) f₂₀ (lit≤ tt) short₃)
          ∙ of_bytes-code 9223372036854775808 8 a.gap (lit≤ tt) S.gap

      n : of_bytes (body_of (rest (rest (rest (file a))))) ≡ a.passes
      n = ap of_bytes (ap body_of rest₃ ∙ body_back 20 (bytes 2 a.passes) [] (lit≤ tt) short₄) ∙ of_bytes_bytes 2 a.passes S.passes

  -- what the writer writes is read back as the same times, prices, gap and passes
  pub read_back : read_answer (file a) ≡ answer a
  unfolding read_answer
  read_back = sym (pick_true (is_answer (file a)) none is-answer (ap answer (sym answer-is)))
