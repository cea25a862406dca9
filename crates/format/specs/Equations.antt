-- Each definition that the code computes, by its right side: what equals the one equals the other.
use Rattle.std.specs.Prelude.{◌≡◌, refl, Bool, true, false, not, List, ℕ, ◌+◌, ◌*◌, ◌-◌, ltb, leb, eqb, length, ℤ, pos, neg_ℤ, Err}
use Rattle.std.specs.Int.Signed.{le_z}
use Rattle.folds.specs.Fold.{pick, both}
use Rattle.block.specs.Block.{Block}
use Rattle.block.specs.Ranges.{max_words, max_tempos, max_anchors, max_spans, max_time, max_slope, max_weight, max_coef, max_sum}
use Rattle.format.specs.Read.{Verdict, Accepted, need, after, byte_at, u16_at, u32_at, signed, i8_at, i32_at, tag, len, body}
use Rattle.format.specs.Read.{up_to, one_to, size_up_to, is_zero, in_order, word_tag, tempo_tag, anchor_tag, span_tag, cap_tag}
use Rattle.format.specs.Read.{rises, pair_verdict, first_of, list_verdict, word_verdict, tempo_verdict, anchor_verdict, span_verdict, cap_verdict}
use Rattle.format.specs.Read.{pairs_in, count, count_of, has_room, head_verdict, body_verdict, field_verdict, end_verdict}
use Rattle.format.specs.Read.{word_from, tempo_from, anchor_from, span_from, with_word, with_tempo, with_anchor, with_span, with_cap, with_body}
use Rattle.format.specs.declared.Counts.{Counts}
use Rattle.format.specs.declared.Refusal.TheVariants.{BadLength, UnknownTag, OutOfOrder, TooMany, OutOfRange, CrossedBounds, BadList}

-- ---- numbers
module _ (s : List ℕ) (i : ℕ) where
  pub u16_at_by : {n : ℕ} → n ≡ byte_at s i + 256 * byte_at s (i + 1) → n ≡ u16_at s i
  unfolding u16_at
  u16_at_by e = e

  pub u32_at_by : {n : ℕ} → n ≡ u16_at s i + 65536 * u16_at s (i + 2) → n ≡ u32_at s i
  unfolding u32_at
  u32_at_by e = e

  pub i8_at_by : {z : ℤ} → z ≡ signed 128 (byte_at s i) → z ≡ i8_at s i
  unfolding i8_at
  i8_at_by e = e

  pub i32_at_by : {z : ℤ} → z ≡ signed 2147483648 (u32_at s i) → z ≡ i32_at s i
  unfolding i32_at
  i32_at_by e = e

pub size_up_to_by : {t : Bool} (most : ℕ) (z : ℤ) → t ≡ both (le_z (neg_ℤ (pos most)) z) (le_z z (pos most)) → t ≡ size_up_to most z
unfolding size_up_to
size_up_to_by most z e = e

pub is_zero_by : {t : Bool} (z : ℤ) → t ≡ both (le_z z (pos 0)) (le_z (pos 0) z) → t ≡ is_zero z
unfolding is_zero
is_zero_by z e = e

-- ---- the body of a field
module _ (b : List ℕ) (p : ℕ) where
  pub rises_by : {t : Bool} (i : ℕ) → t ≡ pick (eqb i 0) true (ltb (byte_at b (p + 2 * i - 1)) (byte_at b (p + 2 * i + 1))) → t ≡ rises b p i
  unfolding rises
  rises_by i e = e

  pub pair_verdict_by : {v : Verdict} (words i : ℕ)
      → v ≡ need (ltb (byte_at b (p + 2 * i + 1)) words) (Err BadList)
      (need (rises b p i) (Err BadList)
      (need (size_up_to max_coef (i8_at b (p + 2 * i + 2))) (Err OutOfRange)
      (need (not (is_zero (i8_at b (p + 2 * i + 2)))) (Err OutOfRange)
      Accepted)))
      → v ≡ pair_verdict b p words i
  unfolding pair_verdict
  pair_verdict_by words i e = e

  pub list_verdict_by : {v : Verdict} (words n : ℕ) → v ≡ need (eqb (byte_at b p) n) (Err BadList) (first_of n (pair_verdict b p words))
      → v ≡ list_verdict b p words n
  unfolding list_verdict
  list_verdict_by words n e = e

module _ {v : Verdict} (b : List ℕ) where
  pub word_verdict_by :
      v ≡ need (up_to max_time (u32_at b 0)) (Err OutOfRange)
      (need (up_to max_time (u32_at b 4)) (Err OutOfRange)
      (need (up_to max_time (u32_at b 8)) (Err OutOfRange)
      (need (up_to max_time (u32_at b 12)) (Err OutOfRange)
      (need (up_to max_slope (u32_at b 16)) (Err OutOfRange)
      (need (leb (u32_at b 0) (u32_at b 4)) (Err CrossedBounds)
      Accepted)))))
      → v ≡ word_verdict b
  unfolding word_verdict
  word_verdict_by e = e

  pub cap_verdict_by : v ≡ need (up_to max_sum (u32_at b 0)) (Err OutOfRange) Accepted → v ≡ cap_verdict b
  unfolding cap_verdict
  cap_verdict_by e = e

  module _ (words n : ℕ) where
    pub tempo_verdict_by :
        v ≡ need (one_to max_weight (u16_at b 0)) (Err OutOfRange)
        (need (size_up_to max_sum (i32_at b 2)) (Err OutOfRange)
        (list_verdict b 6 words n))
        → v ≡ tempo_verdict b words n
    unfolding tempo_verdict
    tempo_verdict_by e = e

    pub anchor_verdict_by : v ≡ need (size_up_to max_sum (i32_at b 0)) (Err OutOfRange) (list_verdict b 4 words n) → v ≡ anchor_verdict b words n
    unfolding anchor_verdict
    anchor_verdict_by e = e

    pub span_verdict_by :
        v ≡ need (size_up_to max_sum (i32_at b 0)) (Err OutOfRange)
        (need (size_up_to max_sum (i32_at b 4)) (Err OutOfRange)
        (after (list_verdict b 8 words n)
        (need (le_z (i32_at b 0) (i32_at b 4)) (Err CrossedBounds)
        Accepted)))
        → v ≡ span_verdict b words n
    unfolding span_verdict
    span_verdict_by e = e

    pub body_verdict_by : (t : ℕ)
        → v ≡ pick (eqb t word_tag) (word_verdict b)
        (pick (eqb t tempo_tag) (tempo_verdict b words n)
        (pick (eqb t anchor_tag) (anchor_verdict b words n)
        (pick (eqb t span_tag) (span_verdict b words n)
        (cap_verdict b))))
        → v ≡ body_verdict t b words n
    unfolding body_verdict
    body_verdict_by t e = e

-- ---- the header of a field
pub pairs_in_by : {k : ℕ} (fixed n : ℕ)
    → k ≡ pick (eqb n (fixed + 2)) 1 (pick (eqb n (fixed + 4)) 2 (pick (eqb n (fixed + 6)) 3 (pick (eqb n (fixed + 8)) 4 0)))
    → k ≡ pairs_in fixed n
unfolding pairs_in
pairs_in_by fixed n e = e

pub count_by : {k : ℕ} (t n : ℕ)
    → k ≡ pick (eqb t word_tag) (pick (eqb n 20) 1 0)
    (pick (eqb t tempo_tag) (pairs_in 7 n)
    (pick (eqb t anchor_tag) (pairs_in 5 n)
    (pick (eqb t span_tag) (pairs_in 9 n)
    (pick (eqb n 4) 1 0))))
    → k ≡ count t n
unfolding count
count_by t n e = e

pub has_room_by : {r : Bool} (t : ℕ) (so : Counts)
    → r ≡ pick (eqb t word_tag) (ltb so.words max_words)
    (pick (eqb t tempo_tag) (ltb so.tempos max_tempos)
    (pick (eqb t anchor_tag) (ltb so.anchors max_anchors)
    (pick (eqb t span_tag) (ltb so.spans max_spans)
    true)))
    → r ≡ has_room t so
unfolding has_room
has_room_by t so e = e

module _ {v : Verdict} (r : List ℕ) (last : ℕ) (so : Counts) where
  pub head_verdict_by :
      v ≡ need (leb 3 (length r)) (Err BadLength)
      (need (one_to cap_tag (tag r)) (Err UnknownTag)
      (need (in_order last (tag r)) (Err OutOfOrder)
      (need (has_room (tag r) so) (Err TooMany)
      (need (leb 1 (count_of r)) (Err BadLength)
      (need (leb (len r) (length r - 3)) (Err BadLength)
      Accepted)))))
      → v ≡ head_verdict r last so
  unfolding head_verdict
  head_verdict_by e = e

  pub field_verdict_by : v ≡ after (head_verdict r last so) (body_verdict (tag r) (body r) so.words (count_of r)) → v ≡ field_verdict r last so
  unfolding field_verdict
  field_verdict_by e = e

-- ---- the block
pub with_body_by : {q : Block} (t : ℕ) (b : List ℕ) (n : ℕ) (k : Block)
    → q ≡ pick (eqb t word_tag) (with_word (word_from b) k)
    (pick (eqb t tempo_tag) (with_tempo (tempo_from b n) k)
    (pick (eqb t anchor_tag) (with_anchor (anchor_from b n) k)
    (pick (eqb t span_tag) (with_span (span_from b n) k)
    (with_cap (u32_at b 0) k))))
    → q ≡ with_body t b n k
unfolding with_body
with_body_by t b n k e = e

pub end_verdict_by : {v : Verdict} (last words : ℕ) → v ≡ need (leb 1 words) (Err OutOfOrder) (need (eqb last cap_tag) (Err OutOfOrder) Accepted)
    → v ≡ end_verdict last words
unfolding end_verdict
end_verdict_by last words e = e
