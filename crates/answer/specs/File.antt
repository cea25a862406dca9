-- The answer file. Document 01: "The answer file, in fields of the same form, one of each; bytes of the slice past it keep their values: tag 17,
-- times (4 bytes each); 18, prices (8 bytes each, signed: anchors, spans, cap); 19, gap (8, signed); 20, passes of the accepted solve (2)."
use Rattle.std.specs.Prelude.{◌≡◌, List, [], ◌∷◌, ◌++◌, ℕ, zero, suc, ◌+◌, ◌*◌, ◌-◌, ◌/◌, ◌%◌, leb, length, ℤ, pos, negsuc}
use Rattle.folds.specs.Fold.{over, pick}

pub record Answer : Type 0 where
  pub times : List ℤ
  pub prices : List ℤ
  pub gap : ℤ
  pub passes : ℕ

abbrev pub answer_of : (times prices : List ℤ) (gap : ℤ) (passes : ℕ) → Answer
answer_of t p g n = record { times = t; prices = p; gap = g; passes = n }

-- "Numbers of more than one byte go low byte first": the k low bytes of n
unfoldable pub bytes : (k n : ℕ) → List ℕ
bytes zero n = []
bytes (suc k) n = n % 256 ∷ bytes k (n / 256)

-- a signed number in two's complement: `half` is the first number that stands for a negative one
unfoldable pub code : (half : ℕ) → ℤ → ℕ
code half (pos n) = n
code half (negsuc n) = half + half - suc n

-- in 4 bytes, and in 8
abbrev pub in4 : ℤ → List ℕ
in4 z = bytes 4 (code 2147483648 z)

abbrev pub in8 : ℤ → List ℕ
in8 z = bytes 8 (code 9223372036854775808 z)

-- the numbers of a list, one after the other
unfoldable pub each : {A : Type 0} (f : A → List ℕ) (numbers : List A) → List ℕ
each f [] = []
each f (z ∷ zs) = f z ++ each f zs

-- "Fields: one-byte tag, two-byte length, body."
unfoldable pub field : (tag : ℕ) (body : List ℕ) → List ℕ
field tag body = bytes 1 tag ++ (bytes 2 (length body) ++ body)

unfoldable pub file : Answer → List ℕ
file a =
    field 17 (each in4 a.times)
    ++ (field 18 (each in8 a.prices)
    ++ (field 19 (in8 a.gap)
    ++ field 20 (bytes 2 a.passes)))

-- ---- writing it to a slice o: "8, answer slice too small"; a refusal leaves the slice as it was
unfoldable pub refusal : Answer → (slice : List ℕ) → ℕ
refusal a o = pick (leb (length (file a)) (length o)) 0 8

unfoldable pub written : Answer → (slice : List ℕ) → List ℕ
written a o = pick (leb (length (file a)) (length o)) (over (file a) o) o

-- what a call promises of its result r and of the slice, o at entry
pub record Written (a : Answer) (o : List ℕ) (r : ℕ) (exit : List ℕ) : Type 0 where
  pub result : r ≡ refusal a o
  pub slice : exit ≡ written a o

-- the file's length, from its counts
unfoldable pub file_size : (times prices : ℕ) → ℕ
file_size times prices = 22 + 4 * times + 8 * prices
