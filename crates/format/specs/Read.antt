-- What a list of bytes is as a block file: a block, or a refusal by its number. Document 01, "The block file" and "Refusal table".
-- A field is first judged, then taken: the verdict is on bytes and tests alone, and what a field holds is looked at only where it is Accepted.
use Rattle.std.specs.Prelude.{Bool, true, false, not, List, [], ◌∷◌, ◌++◌, ℕ, zero, suc, ◌+◌, ◌*◌, ◌-◌, length, get_or, take, drop, ltb, leb, eqb, ℤ, pos, neg_ℤ, ◌-ℤ◌, Result, Ok, Err}
use Rattle.std.specs.Int.Signed.{le_z}
use Rattle.folds.specs.Fold.{pick, both}
use Rattle.block.specs.Block.{Word, Item, Tempo, Anchor, Span, Block}
use Rattle.block.specs.Ranges.{max_words, max_tempos, max_anchors, max_spans, max_time, max_slope, max_weight, max_coef, max_sum}
use Rattle.format.specs.declared.Counts.{Counts}
use Rattle.format.specs.declared.Refusal.{Refusal}
use Rattle.format.specs.declared.Refusal.TheVariants.{BadLength, UnknownTag, OutOfOrder, TooMany, OutOfRange, CrossedBounds, BadList}
use Rattle.format.specs.declared.Refusal.TheVariants.{ShortSlice, WrongShape, NanBound, NonFiniteCovariance, SingularCovariance, Unbounded, NotConverged, GapOverflow}

-- ---- "Refusal table": torn, strange tag, out of turn, crowded, off the tape, crossed, bad list; short page, wrong shape, blank bound, the engine's, overrun
abbrev pub number_of : Refusal → ℕ
number_of BadLength = 1
number_of UnknownTag = 2
number_of OutOfOrder = 3
number_of TooMany = 4
number_of OutOfRange = 5
number_of CrossedBounds = 6
number_of BadList = 7
number_of ShortSlice = 8
number_of WrongShape = 9
number_of NanBound = 10
number_of NonFiniteCovariance = 11
number_of SingularCovariance = 12
number_of Unbounded = 13
number_of NotConverged = 14
number_of GapOverflow = 15

-- what judging gives: nothing, or a refusal
abbrev pub Verdict : Type 0
Verdict = Result (Unit {0}) Refusal

abbrev pub Accepted : Verdict
Accepted = Ok tt

unfoldable pub accepted : Verdict → Bool
accepted (Ok u) = true
accepted (Err r) = false

-- 0 is no refusal's
abbrev pub number : Verdict → ℕ
number (Ok u) = 0
number (Err r) = number_of r

-- judging in order: v where the test fails, else the rest
unfoldable pub need : (test : Bool) (v rest : Verdict) → Verdict
need true v rest = rest
need false v rest = v

-- v where it refuses, else the rest
abbrev pub after : (v rest : Verdict) → Verdict
after v rest = need (accepted v) v rest

-- ---- "Fields: one-byte tag, two-byte length, body." r is the file from the field on
abbrev pub byte_at : (bytes : List ℕ) (i : ℕ) → ℕ
byte_at s i = get_or s i 0

-- "Numbers of more than one byte go low byte first"
unfoldable pub u16_at : (bytes : List ℕ) (i : ℕ) → ℕ
u16_at s i = byte_at s i + 256 * byte_at s (i + 1)

unfoldable pub u32_at : (bytes : List ℕ) (i : ℕ) → ℕ
u32_at s i = u16_at s i + 65536 * u16_at s (i + 2)

abbrev pub tag : List ℕ → ℕ
tag r = byte_at r 0

abbrev pub len : List ℕ → ℕ
len r = u16_at r 1

abbrev pub body : List ℕ → List ℕ
body r = take (len r) (drop 3 r)

-- "signed 32-bit in the file unless said": two's complement, where `half` is the first number that stands for a negative one
unfoldable pub signed : (half n : ℕ) → ℤ
signed half n = pick (ltb n half) (pos n) (pos n -ℤ pos (half + half))

unfoldable pub i8_at : (bytes : List ℕ) (i : ℕ) → ℤ
i8_at s i = signed 128 (byte_at s i)

unfoldable pub i32_at : (bytes : List ℕ) (i : ℕ) → ℤ
i32_at s i = signed 2147483648 (u32_at s i)

-- ---- the tags, "1 word", "2 tempo", "3 anchor", "4 span", "5 cap, one, last"
abbrev pub word_tag : ℕ
word_tag = 1

abbrev pub tempo_tag : ℕ
tempo_tag = 2

abbrev pub anchor_tag : ℕ
anchor_tag = 3

abbrev pub span_tag : ℕ
span_tag = 4

abbrev pub cap_tag : ℕ
cap_tag = 5

-- ---- the ranges. A number from 0 or 1 up is judged without its sign: read so, a negative one is above every range (Signed.antt)
abbrev pub up_to : (most n : ℕ) → Bool
up_to most n = leb n most

abbrev pub one_to : (most n : ℕ) → Bool
one_to most n = both (leb 1 n) (leb n most)

-- from -most to most
unfoldable pub size_up_to : (most : ℕ) (z : ℤ) → Bool
size_up_to most z = both (le_z (neg_ℤ (pos most)) z) (le_z z (pos most))

unfoldable pub is_zero : ℤ → Bool
is_zero z = both (le_z z (pos 0)) (le_z (pos 0) z)

-- ---- "A list is a count byte (1 to 4) and pairs: word number (byte, from 0, rising), coefficient (signed byte, −8 to 8, not 0)."
-- The count byte stands at p of the body b, and pair i from p + 2 i + 1 on
unfoldable pub rises : (body : List ℕ) (p i : ℕ) → Bool
rises b p i = pick (eqb i 0) true (ltb (byte_at b (p + 2 * i - 1)) (byte_at b (p + 2 * i + 1)))

unfoldable pub pair_verdict : (body : List ℕ) (p words i : ℕ) → Verdict
pair_verdict b p words i =
    need (ltb (byte_at b (p + 2 * i + 1)) words) (Err BadList)
    (need (rises b p i) (Err BadList)
    (need (size_up_to max_coef (i8_at b (p + 2 * i + 2))) (Err OutOfRange)
    (need (not (is_zero (i8_at b (p + 2 * i + 2)))) (Err OutOfRange)
    Accepted)))

-- the first refusal of f 0, f 1, .., f (n - 1), or Accepted
unfoldable pub first_of : (n : ℕ) (f : ℕ → Verdict) → Verdict
first_of zero f = Accepted
first_of (suc n) f = after (first_of n f) (f n)

-- "a count that disagrees with a fitting length is 7": `count` is the length's
unfoldable pub list_verdict : (body : List ℕ) (p words count : ℕ) → Verdict
list_verdict b p words count = need (eqb (byte_at b p) count) (Err BadList) (first_of count (pair_verdict b p words))

abbrev pub pair_from : (body : List ℕ) (p i : ℕ) → Item
pair_from b p i = record { word = byte_at b (p + 2 * i + 1); coef = i8_at b (p + 2 * i + 2) }

abbrev pub list_from : (body : List ℕ) (p count : ℕ) → List Item
list_from b p count = take count (pair_from b p 0 ∷ pair_from b p 1 ∷ pair_from b p 2 ∷ pair_from b p 3 ∷ [])

-- ---- each field's body b: "its numbers and list 5 or 7 in file order, then 6", and what it holds
-- "1 word: lower, upper, key time, start (each 0 to 262,144), slope (0 to 65,535)"
unfoldable pub word_verdict : List ℕ → Verdict
word_verdict b =
    need (up_to max_time (u32_at b 0)) (Err OutOfRange)
    (need (up_to max_time (u32_at b 4)) (Err OutOfRange)
    (need (up_to max_time (u32_at b 8)) (Err OutOfRange)
    (need (up_to max_time (u32_at b 12)) (Err OutOfRange)
    (need (up_to max_slope (u32_at b 16)) (Err OutOfRange)
    (need (leb (u32_at b 0) (u32_at b 4)) (Err CrossedBounds)
    Accepted)))))

abbrev pub word_from : List ℕ → Word
word_from b = record { lower = u32_at b 0; upper = u32_at b 4; key = u32_at b 8; start = u32_at b 12; slope = u32_at b 16 }

-- "2 tempo: weight (16-bit, 1 to 64), target, list"
unfoldable pub tempo_verdict : (body : List ℕ) (words count : ℕ) → Verdict
tempo_verdict b words count =
    need (one_to max_weight (u16_at b 0)) (Err OutOfRange)
    (need (size_up_to max_sum (i32_at b 2)) (Err OutOfRange)
    (list_verdict b 6 words count))

abbrev pub tempo_from : (body : List ℕ) (count : ℕ) → Tempo
tempo_from b count = record { weight = u16_at b 0; target = i32_at b 2; list = list_from b 6 count }

-- "3 anchor: value, list"
unfoldable pub anchor_verdict : (body : List ℕ) (words count : ℕ) → Verdict
anchor_verdict b words count =
    need (size_up_to max_sum (i32_at b 0)) (Err OutOfRange)
    (list_verdict b 4 words count)

abbrev pub anchor_from : (body : List ℕ) (count : ℕ) → Anchor
anchor_from b count = record { value = i32_at b 0; list = list_from b 4 count }

-- "4 span: lower, upper, list"
unfoldable pub span_verdict : (body : List ℕ) (words count : ℕ) → Verdict
span_verdict b words count =
    need (size_up_to max_sum (i32_at b 0)) (Err OutOfRange)
    (need (size_up_to max_sum (i32_at b 4)) (Err OutOfRange)
    (after (list_verdict b 8 words count)
    (need (le_z (i32_at b 0) (i32_at b 4)) (Err CrossedBounds)
    Accepted)))

abbrev pub span_from : (body : List ℕ) (count : ℕ) → Span
span_from b count = record { lower = i32_at b 0; upper = i32_at b 4; list = list_from b 8 count }

-- "5 cap: 0 to 8,388,608"
unfoldable pub cap_verdict : List ℕ → Verdict
cap_verdict b = need (up_to max_sum (u32_at b 0)) (Err OutOfRange) Accepted

-- ---- "A length that fits no count of its tag is 1"
-- the count of the list in a body of n bytes, `fixed` of which stand before its pairs; 0 where none fits
unfoldable pub pairs_in : (fixed length : ℕ) → ℕ
pairs_in fixed n =
    pick (eqb n (fixed + 2)) 1
    (pick (eqb n (fixed + 4)) 2
    (pick (eqb n (fixed + 6)) 3
    (pick (eqb n (fixed + 8)) 4
    0)))

-- the count of a field of tag t and length n, 1 for a tag without a list; 0 where the tag has no such length
unfoldable pub count : (tag length : ℕ) → ℕ
count t n =
    pick (eqb t word_tag) (pick (eqb n 20) 1 0)
    (pick (eqb t tempo_tag) (pairs_in 7 n)
    (pick (eqb t anchor_tag) (pairs_in 5 n)
    (pick (eqb t span_tag) (pairs_in 9 n)
    (pick (eqb n 4) 1 0))))

abbrev pub count_of : List ℕ → ℕ
count_of r = count (tag r) (len r)

-- ---- a field. `last` is the tag of the field before, 0 before the first; `so` how many fields of each tag stand before
-- "Tags never fall", and the cap is last: after it no tag is in order
abbrev pub in_order : (last tag : ℕ) → Bool
in_order last t = both (ltb last cap_tag) (leb last t)

unfoldable pub has_room : (tag : ℕ) → Counts → Bool
has_room t so =
    pick (eqb t word_tag) (ltb so.words max_words)
    (pick (eqb t tempo_tag) (ltb so.tempos max_tempos)
    (pick (eqb t anchor_tag) (ltb so.anchors max_anchors)
    (pick (eqb t span_tag) (ltb so.spans max_spans)
    true)))

-- "a cut header 1, then 2, 3, 4, then a wrong length or a cut body 1"
unfoldable pub head_verdict : (r : List ℕ) (last : ℕ) → Counts → Verdict
head_verdict r last so =
    need (leb 3 (length r)) (Err BadLength)
    (need (one_to cap_tag (tag r)) (Err UnknownTag)
    (need (in_order last (tag r)) (Err OutOfOrder)
    (need (has_room (tag r) so) (Err TooMany)
    (need (leb 1 (count_of r)) (Err BadLength)
    (need (leb (len r) (length r - 3)) (Err BadLength)
    Accepted)))))

unfoldable pub body_verdict : (tag : ℕ) (body : List ℕ) (words count : ℕ) → Verdict
body_verdict t b words n =
    pick (eqb t word_tag) (word_verdict b)
    (pick (eqb t tempo_tag) (tempo_verdict b words n)
    (pick (eqb t anchor_tag) (anchor_verdict b words n)
    (pick (eqb t span_tag) (span_verdict b words n)
    (cap_verdict b))))

unfoldable pub field_verdict : (r : List ℕ) (last : ℕ) → Counts → Verdict
field_verdict r last so = after (head_verdict r last so) (body_verdict (tag r) (body r) so.words (count_of r))

-- the block with one field more
abbrev pub with_word : Word → Block → Block
with_word w b = record { words = b.words ++ (w ∷ []); tempos = b.tempos; anchors = b.anchors; spans = b.spans; cap = b.cap }

abbrev pub with_tempo : Tempo → Block → Block
with_tempo t b = record { words = b.words; tempos = b.tempos ++ (t ∷ []); anchors = b.anchors; spans = b.spans; cap = b.cap }

abbrev pub with_anchor : Anchor → Block → Block
with_anchor a b = record { words = b.words; tempos = b.tempos; anchors = b.anchors ++ (a ∷ []); spans = b.spans; cap = b.cap }

abbrev pub with_span : Span → Block → Block
with_span s b = record { words = b.words; tempos = b.tempos; anchors = b.anchors; spans = b.spans ++ (s ∷ []); cap = b.cap }

abbrev pub with_cap : (cap : ℕ) → Block → Block
with_cap n b = record { words = b.words; tempos = b.tempos; anchors = b.anchors; spans = b.spans; cap = n }

unfoldable pub with_body : (tag : ℕ) (body : List ℕ) (count : ℕ) → Block → Block
with_body t b n k =
    pick (eqb t word_tag) (with_word (word_from b) k)
    (pick (eqb t tempo_tag) (with_tempo (tempo_from b n) k)
    (pick (eqb t anchor_tag) (with_anchor (anchor_from b n) k)
    (pick (eqb t span_tag) (with_span (span_from b n) k)
    (with_cap (u32_at b 0) k))))

abbrev pub with_field : (r : List ℕ) → Block → Block
with_field r k = with_body (tag r) (body r) (count_of r) k

-- ---- the file. "Fields are judged left to right"
pub data Outcome : Type 0 where
  block : Block → Outcome
  refused : ℕ → Outcome

abbrev pub outcome : Verdict → Block → Outcome
outcome v b = pick (accepted v) (block b) (refused (number v))

-- "at the end 3": "no word, no cap"
unfoldable pub end_verdict : (last words : ℕ) → Verdict
end_verdict last words =
    need (leb 1 words) (Err OutOfOrder)
    (need (eqb last cap_tag) (Err OutOfOrder)
    Accepted)

unfoldable pub counts : Block → Counts
counts b = record { words = length b.words; tempos = length b.tempos; anchors = length b.anchors; spans = length b.spans }

-- the fields of r, of which there are at most `most`, after those of b
unfoldable pub fields : (most : ℕ) (r : List ℕ) (last : ℕ) → Block → Outcome
fields zero r last b = outcome (end_verdict last (length b.words)) b
fields (suc most) r last b =
    let v = field_verdict r last (counts b) in
    let rest = fields most (drop (3 + len r) r) (tag r) (with_field r b) in
    pick (eqb (length r) 0) (outcome (end_verdict last (length b.words)) b)
    (pick (accepted v) rest (refused (number v)))

abbrev pub empty : Block
empty = record { words = []; tempos = []; anchors = []; spans = []; cap = 0 }

-- a file has no more fields than bytes
unfoldable pub read : List ℕ → Outcome
read s = fields (length s) s 0 empty
