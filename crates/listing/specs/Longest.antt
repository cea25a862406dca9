-- How long a listing is at most, so that a slice of that length has room for every one.
use Rattle.std.specs.Prelude.{List, [], ◌∷◌, length, ℤ, pos, negsuc, nat_abs}
use Prim.Native.Nat.{ℕ, zero, suc, ◌+◌, ◌*◌, ◌^◌, ◌≤◌, ◌<◌, zero-le}
use Rattle.std.proofs.Common.{arith}
use Rattle.std.proofs.Math.Nat.{le_refl}
use Rattle.std.proofs.Math.ListN.{length-append}
use Rattle.block.specs.Block.{Block, word}
use Rattle.block.specs.Plan.{time, moves}
use Rattle.block.specs.Ranges.{Ranged, Timed}
use Rattle.block.specs.Fits.{all-moves-b}
use Rattle.listing.specs.Listing.{decimal, integer, space, newline, heading, moves_word, cap_word, gap_word, rounds_word, refused_word}
use Rattle.listing.specs.Listing.{joined, word_line, word_lines, moves_line, gap_line, count_line, plan, refused}
use Rattle.listing.specs.Laws.{decimal-short}

-- the heading, 32 words of 18 bytes each, moves and cap, gap and rounds
abbrev pub longest : ℕ
longest = 15 + (32 * 18 + (28 + (25 + 28)))

-- a text of at most n bytes, and pieces of at most n bytes in all
pub record Short (s : List ℕ) (n : ℕ) : Type 0 where
  pub most : length s ≤ n

record Pieces (ss : List (List ℕ)) (n : ℕ) : Type 0 where
  few : length (joined ss) ≤ n

none : Pieces [] 0
unfolding joined
none = record { few = le_refl 0 }

infixr 5 ◌and◌
◌and◌ : {s : List ℕ} {ss : List (List ℕ)} {m n : ℕ} → Short s m → Pieces ss n → Pieces (s ∷ ss) (m + n)
unfolding joined
◌and◌ {s} {ss} p q = record { few = omega (arith, length-append s (joined ss), p.most, q.few) }

-- ---- numbers: of k + 1 digits, and with a sign
decimal-is : (k : ℕ) {n : ℕ} → n < 10 ^ suc k → Short (decimal n) (suc k)
decimal-is k {n} h = record { most = decimal-short k n h }

integer-is : (k : ℕ) (z : ℤ) → nat_abs z < 10 ^ suc k → Short (integer z) (suc (suc k))
unfolding integer
integer-is k (pos n) h = record { most = omega (arith, decimal-short k n h) }
integer-is k (negsuc n) h = record { most = omega (arith, decimal-short k (suc n) h) }

-- ---- the lines
newline-is : Short newline 1
unfolding newline
newline-is = record { most = le_refl 1 }

word_line-is : (i key : ℕ) (t : ℤ) → i < 100 → key < 1000000 → nat_abs t < 1000000 → Short (word_line i key t) 18
unfolding word_line space
word_line-is i key t p q r =
    let gap : Short space 1 = record { most = le_refl 1 } in
    record { most = (decimal-is 1 p and gap and decimal-is 5 q and gap and integer-is 5 t r and newline-is and none).few }

moves_line-is : (m : ℤ) (cap : ℕ) → nat_abs m < 100000000 → cap < 10000000 → Short (moves_line m cap) 28
unfolding moves_line moves_word cap_word
moves_line-is m cap p q =
    let moves : Short moves_word 6 = record { most = le_refl 6 } in
    let capped : Short cap_word 5 = record { most = le_refl 5 } in
    record { most = (moves and integer-is 7 m p and capped and decimal-is 6 q and newline-is and none).few }

gap_line-is : (g : ℤ) → nat_abs g < 10000000000000000000 → Short (gap_line g) 25
unfolding gap_line gap_word
gap_line-is g p =
    let gap : Short gap_word 4 = record { most = le_refl 4 } in
    record { most = (gap and integer-is 18 g p and newline-is and none).few }

count_line-is : (name : List ℕ) (k l n : ℕ) → length name ≤ l → n < 10 ^ suc k → Short (count_line name n) (l + (suc k + (1 + 0)))
unfolding count_line
count_line-is name k l n h p =
    let word : Short name l = record { most = h } in
    record { most = (word and decimal-is k p and newline-is and none).few }

-- ---- the listings
module _ {b : Block} (R : Ranged b) {x : List ℤ} (X : Timed (length b.words) x) where
  words-are : (n : ℕ) → n ≤ length b.words → length (word_lines n b x) ≤ n * 18
  unfolding word_lines
  words-are zero h = zero-le
  words-are (suc n) h =
      let w = word_line-is n (word b n).key (time x n) (omega (arith, R.words)) (omega (arith, (R.each_word n h).key))
      (omega (arith, X.small n h)) in
      omega (arith, words-are n (omega arith), length-append (word_lines n b x) (word_line n (word b n).key (time x n)), w.most)

  -- a gap in signed 64 bits, and passes in 64
  pub plan-short : (g : ℤ) (passes : ℕ) → nat_abs g ≤ 9223372036854775808 → passes < 18446744073709551616 → Short (plan b x g passes) longest
  unfolding plan heading rounds_word
  plan-short g passes p q =
      let first : Short heading 15 = record { most = le_refl 15 } in
      let words : Short (word_lines (length b.words) b x) (32 * 18) =
      record { most = omega (arith, words-are (length b.words) (le_refl _), R.words) } in
      let moved = moves_line-is (moves b x) b.cap (omega (arith, (all-moves-b R X).size)) (omega (arith, R.cap)) in
      let rounds = count_line-is rounds_word 19 7 passes (le_refl 7) (omega arith) in
      record { most = (first and words and moved and gap_line-is g (omega arith) and rounds and none).few }

pub refused-short : (number : ℕ) → number < 4294967296 → Short (refused number) longest
unfolding refused refused_word
refused-short number h = let l = count_line-is refused_word 9 8 number (le_refl 8) (omega arith) in record { most = omega (arith, l.most) }
