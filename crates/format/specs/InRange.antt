-- A block that was read is in its ranges: `read s ≡ block b → Ranged b`.
use Rattle.std.specs.Prelude.{◌≡◌, Bool, not, List, [], ◌∷◌, ◌++◌, leb, ltb, eqb, length, get_or, drop, ℤ, pos, negsuc, neg_ℤ, nat_abs, Err}
use Rattle.std.proofs.Math.Path.{refl}
use Rattle.std.proofs.Common.{sym, ◌∙◌, subst, ⊎_elim, not-suc-le-zero, lt_of_lt_of_le, eq-or-lt_of_le, length-append}
use Rattle.std.proofs.Math.Bool.{true, false}
use Prim.Native.Nat.{ℕ, zero, suc, ◌+◌, ◌*◌, ◌-◌, ◌≤◌, ◌<◌, zero-le}
use native.Mathlib.Omega.{arith}
use Rattle.std.proofs.Math.ListN.{get_or-append}
use Rattle.std.proofs.lemmas.List.{get_or_at}
use Rattle.std.specs.Int.Signed.{le_z}
use borrow.Author.Tests.{leb-true, ltb-true, ne_eqb}
use Rattle.folds.specs.Fold.{pick, pick_true, pick_keep, false_true, both, both_true}
use Rattle.ints.specs.Diff.{le_z_true}
use Rattle.block.specs.Block.{Word, Item, Tempo, Anchor, Span, Block, word, tempo, anchor, span, item}
use Rattle.block.specs.Ranges.{RangedList, RangedWord, RangedTempo, RangedAnchor, RangedSpan, RangedFrom, Ranged}
use Rattle.block.specs.Ranges.{max_words, max_tempos, max_anchors, max_spans, max_pairs, max_time, max_slope, max_weight, max_coef, max_sum}
use Rattle.format.specs.Read.{accepted, byte_at, i8_at, u16_at, u32_at, i32_at, size_up_to, is_zero, rises, up_to, one_to}
use Rattle.format.specs.Read.{pair_verdict, list_verdict, word_verdict, tempo_verdict, anchor_verdict, span_verdict, cap_verdict}
use Rattle.format.specs.Read.{pair_from, list_from, word_from, tempo_from, anchor_from, span_from}
use Rattle.format.specs.Read.{pairs_in, count, count_of, tag, len, body, has_room, head_verdict, body_verdict, field_verdict, end_verdict}
use Rattle.format.specs.Read.{with_word, with_tempo, with_anchor, with_span, with_cap, with_body, with_field}
use Rattle.format.specs.Read.{Outcome, block, refused, outcome, number, counts, fields, empty, read}
use Rattle.format.specs.Laws.{need-held, after-held, first-each}
use Rattle.format.specs.Whole.{whole}
use Rattle.format.specs.declared.Refusal.TheVariants.{OutOfOrder, OutOfRange, CrossedBounds, BadList}

-- ---- numbers
size-up_to : (most : ℕ) (z : ℤ) → size_up_to most z ≡ true → nat_abs z ≤ most
unfolding size_up_to
size-up_to most z e = go most z (both_true _ _ e).0 (both_true _ _ e).1
  where
    go : (m : ℕ) (z : ℤ) → le_z (neg_ℤ (pos m)) z ≡ true → le_z z (pos m) ≡ true → nat_abs z ≤ m
    go m (pos n) a b = leb-true n m b
    go zero (negsuc n) a b = absurd (false_true a)
    go (suc m) (negsuc n) a b = omega (arith, leb-true n m a)

zero-is : (z : ℤ) → not (is_zero z) ≡ true → z ≡ pos 0 → ⊥
unfolding is_zero both
zero-is z e h = false_true (rw h at e)

-- ---- a list
-- pair i of a list whose count byte stands at p
record RangedPair (b : List ℕ) (p words i : ℕ) : Type 0 where
  named : (pair_from b p i).word < words
  above : rises b p i ≡ true
  small : nat_abs (pair_from b p i).coef ≤ max_coef
  not_zero : (pair_from b p i).coef ≡ pos 0 → ⊥

module _ (b : List ℕ) (p words : ℕ) where
  pair-ranged : (i : ℕ) → accepted (pair_verdict b p words i) ≡ true → RangedPair b p words i
  unfolding pair_verdict accepted
  pair-ranged i e =
      let a = need-held (ltb (byte_at b (p + 2 * i + 1)) words) (Err BadList) _ refl e in
      let c = need-held (rises b p i) (Err BadList) _ refl a.1 in
      let d = need-held (size_up_to max_coef (i8_at b (p + 2 * i + 2))) (Err OutOfRange) _ refl c.1 in
      let z = need-held (not (is_zero (i8_at b (p + 2 * i + 2)))) (Err OutOfRange) _ refl d.1 in
      record { named = ltb-true _ _ a.0; above = c.0; small = size-up_to max_coef _ d.0; not_zero = zero-is _ z.0 }

  pair-rising : (k : ℕ) → rises b p (k + 1) ≡ true → (pair_from b p k).word < (pair_from b p (k + 1)).word
  unfolding rises pick
  pair-rising k e =
      let i : p + 2 * (k + 1) - 1 ≡ p + 2 * k + 1 = omega arith in
      ltb-true (pair_from b p k).word (pair_from b p (k + 1)).word (rw (ne_eqb (k + 1) 0 (λ (z : k + 1 ≡ 0). omega arith), i) at e)

  item-is : (n k : ℕ) → k < n → n ≤ max_pairs → item (list_from b p n) k ≡ pair_from b p k
  item-is zero k h l = absurd (not-suc-le-zero h)
  item-is (suc n) zero h l = refl
  item-is (suc zero) (suc k) h l = absurd (omega arith)
  item-is (suc (suc n)) (suc zero) h l = refl
  item-is (suc (suc zero)) (suc (suc k)) h l = absurd (omega arith)
  item-is (suc (suc (suc n))) (suc (suc zero)) h l = refl
  item-is (suc (suc (suc zero))) (suc (suc (suc k))) h l = absurd (omega arith)
  item-is (suc (suc (suc (suc n)))) (suc (suc (suc zero))) h l = refl
  item-is (suc (suc (suc (suc n)))) (suc (suc (suc (suc k)))) h l = absurd (omega arith)

  length-is : (n : ℕ) → n ≤ max_pairs → length (list_from b p n) ≡ n
  length-is zero l = refl
  length-is (suc zero) l = refl
  length-is (suc (suc zero)) l = refl
  length-is (suc (suc (suc zero))) l = refl
  length-is (suc (suc (suc (suc zero)))) l = refl
  length-is (suc (suc (suc (suc (suc n))))) l = absurd (omega arith)

  list-ranged : (n : ℕ) → 1 ≤ n → n ≤ max_pairs → accepted (list_verdict b p words n) ≡ true → RangedList words (list_from b p n)
  unfolding list_verdict accepted
  list-ranged n f l e =
      let a = need-held (eqb (byte_at b p) n) (Err BadList) _ refl e in
      let s = length-is n l in
      let pair : (k : ℕ) → k < n → RangedPair b p words k = λ k h. pair-ranged k (first-each (pair_verdict b p words) n a.1 k h) in
      record {
        short = record { few = rw s l; small = λ k h. rw (item-is n k (rw s at h) l) (pair k (rw s at h)).small };
        some_pair = rw s f;
        named = λ k h. rw (item-is n k (rw s at h) l) (pair k (rw s at h)).named;
        rising = λ k h.
            let j : k + 1 < n = rw s at h in
            rw (item-is n k (omega arith) l, item-is n (k + 1) j l) (pair-rising k (pair (k + 1) j).above);
        not_zero = λ k h. rw (item-is n k (rw s at h) l) (pair k (rw s at h)).not_zero;
      }

-- a block with more words
list_grows : {n m : ℕ} {l : List Item} → n ≤ m → RangedList n l → RangedList m l
list_grows h r =
    record {
      short = r.short;
      some_pair = r.some_pair;
      named = λ k p. lt_of_lt_of_le (r.named k p) h;
      rising = r.rising;
      not_zero = r.not_zero;
    }

tempo_grows : {n m : ℕ} {t : Tempo} → n ≤ m → RangedTempo n t → RangedTempo m t
tempo_grows h r = record { some_weight = r.some_weight; weight = r.weight; target = r.target; list = list_grows h r.list }

anchor_grows : {n m : ℕ} {a : Anchor} → n ≤ m → RangedAnchor n a → RangedAnchor m a
anchor_grows h r = record { value = r.value; list = list_grows h r.list }

span_grows : {n m : ℕ} {s : Span} → n ≤ m → RangedSpan n s → RangedSpan m s
span_grows h r = record { lower = r.lower; upper = r.upper; list = list_grows h r.list; window = r.window }

-- ---- each field
word-ranged : (b : List ℕ) → accepted (word_verdict b) ≡ true → RangedWord (word_from b)
unfolding word_verdict accepted
word-ranged b e =
    let p = need-held (up_to max_time (u32_at b 0)) (Err OutOfRange) _ refl e in
    let q = need-held (up_to max_time (u32_at b 4)) (Err OutOfRange) _ refl p.1 in
    let r = need-held (up_to max_time (u32_at b 8)) (Err OutOfRange) _ refl q.1 in
    let s = need-held (up_to max_time (u32_at b 12)) (Err OutOfRange) _ refl r.1 in
    let t = need-held (up_to max_slope (u32_at b 16)) (Err OutOfRange) _ refl s.1 in
    let u = need-held (leb (u32_at b 0) (u32_at b 4)) (Err CrossedBounds) _ refl t.1 in
    record {
      lower = leb-true _ _ p.0;
      upper = leb-true _ _ q.0;
      key = leb-true _ _ r.0;
      start = leb-true _ _ s.0;
      slope = leb-true _ _ t.0;
      window = leb-true _ _ u.0;
    }

module _ (b : List ℕ) (words n : ℕ) (f : 1 ≤ n) (l : n ≤ max_pairs) where
  tempo-ranged : accepted (tempo_verdict b words n) ≡ true → RangedTempo words (tempo_from b n)
  unfolding tempo_verdict accepted
  tempo-ranged e =
      let p = need-held (one_to max_weight (u16_at b 0)) (Err OutOfRange) _ refl e in
      let q = need-held (size_up_to max_sum (i32_at b 2)) (Err OutOfRange) _ refl p.1 in
      let w = both_true _ _ p.0 in
      record {
        some_weight = leb-true _ _ w.0;
        weight = leb-true _ _ w.1;
        target = size-up_to max_sum _ q.0;
        list = list-ranged b 6 words n f l q.1;
      }

  anchor-ranged : accepted (anchor_verdict b words n) ≡ true → RangedAnchor words (anchor_from b n)
  unfolding anchor_verdict accepted
  anchor-ranged e =
      let p = need-held (size_up_to max_sum (i32_at b 0)) (Err OutOfRange) _ refl e in
      record { value = size-up_to max_sum _ p.0; list = list-ranged b 4 words n f l p.1 }

  span-ranged : accepted (span_verdict b words n) ≡ true → RangedSpan words (span_from b n)
  unfolding span_verdict accepted
  span-ranged e =
      let p = need-held (size_up_to max_sum (i32_at b 0)) (Err OutOfRange) _ refl e in
      let q = need-held (size_up_to max_sum (i32_at b 4)) (Err OutOfRange) _ refl p.1 in
      let r = after-held (list_verdict b 8 words n) _ q.1 in
      let w = need-held (le_z (i32_at b 0) (i32_at b 4)) (Err CrossedBounds) _ refl r.1 in
      record {
        lower = size-up_to max_sum _ p.0;
        upper = size-up_to max_sum _ q.0;
        list = list-ranged b 8 words n f l r.0;
        window = le_z_true _ _ w.0;
      }

-- ---- the block with one field more
every_more : {A : Type 0} (P : A → Type 0) (d : A) (l : List A) (x : A) → ((i : ℕ) → i < length l → P (get_or l i d)) → P x
    → (i : ℕ) → i < length (l ++ (x ∷ [])) → P (get_or (l ++ (x ∷ [])) i d)
every_more P d l x p q i h =
    ⊎_elim (λ (e : i ≡ length l). subst (λ j. P (get_or (l ++ (x ∷ [])) j d)) (sym e) (subst P (sym (get_or_at l x [] d (length l) refl)) q))
    (λ (k : i < length l). subst P (sym (get_or-append l (x ∷ []) d i k)) (p i k))
    (eq-or-lt_of_le (omega (arith, simp length-append at h)))

one_longer : {A : Type 0} (l : List A) (x : A) → length (l ++ (x ∷ [])) ≡ length l + 1
one_longer l x = simp length-append

-- a block from its ranges, in the record's order
module _ (b : Block) where
  from-parts : {least : ℕ} → least ≤ length b.words → length b.words ≤ max_words → length b.tempos ≤ max_tempos
      → length b.anchors ≤ max_anchors → length b.spans ≤ max_spans → b.cap ≤ max_sum
      → ((i : ℕ) → i < length b.words → RangedWord (word b i))
      → ((j : ℕ) → j < length b.tempos → RangedTempo (length b.words) (tempo b j))
      → ((k : ℕ) → k < length b.anchors → RangedAnchor (length b.words) (anchor b k))
      → ((k : ℕ) → k < length b.spans → RangedSpan (length b.words) (span b k))
      → RangedFrom least b
  from-parts o w t a s c ew et ea es =
      record {
        some_word = o;
        words = w;
        tempos = t;
        anchors = a;
        spans = s;
        cap = c;
        each_word = ew;
        each_tempo = et;
        each_anchor = ea;
        each_span = es;
      }

module _ (k : Block) (r : RangedFrom 0 k) where
  abbrev n : ℕ
  n = length k.words

  word-added : (w : Word) → n < max_words → RangedWord w → RangedFrom 0 (with_word w k)
  word-added w h p =
      let s = one_longer k.words w in
      let g : n ≤ length (k.words ++ (w ∷ [])) = omega arith in
      from-parts (with_word w k) zero-le (omega arith) r.tempos r.anchors r.spans r.cap
      (every_more RangedWord _ k.words w r.each_word p)
      (λ j l. tempo_grows g (r.each_tempo j l)) (λ j l. anchor_grows g (r.each_anchor j l)) (λ j l. span_grows g (r.each_span j l))

  tempo-added : (t : Tempo) → length k.tempos < max_tempos → RangedTempo n t → RangedFrom 0 (with_tempo t k)
  tempo-added t h p =
      let s = one_longer k.tempos t in
      from-parts (with_tempo t k) zero-le r.words (omega arith) r.anchors r.spans r.cap
      r.each_word (every_more (RangedTempo n) _ k.tempos t r.each_tempo p) r.each_anchor r.each_span

  anchor-added : (a : Anchor) → length k.anchors < max_anchors → RangedAnchor n a → RangedFrom 0 (with_anchor a k)
  anchor-added a h p =
      let s = one_longer k.anchors a in
      from-parts (with_anchor a k) zero-le r.words r.tempos (omega arith) r.spans r.cap
      r.each_word r.each_tempo (every_more (RangedAnchor n) _ k.anchors a r.each_anchor p) r.each_span

  span-added : (s : Span) → length k.spans < max_spans → RangedSpan n s → RangedFrom 0 (with_span s k)
  span-added a h p =
      let s = one_longer k.spans a in
      from-parts (with_span a k) zero-le r.words r.tempos r.anchors (omega arith) r.cap
      r.each_word r.each_tempo r.each_anchor (every_more (RangedSpan n) _ k.spans a r.each_span p)

  cap-added : (b : List ℕ) → accepted (cap_verdict b) ≡ true → RangedFrom 0 (with_cap (u32_at b 0) k)
  unfolding cap_verdict accepted
  cap-added b e =
      let p = need-held (up_to max_sum (u32_at b 0)) (Err OutOfRange) _ refl e in
      from-parts (with_cap (u32_at b 0) k) zero-le r.words r.tempos r.anchors r.spans (leb-true _ _ p.0)
      r.each_word r.each_tempo r.each_anchor r.each_span

  body-ranged : (t : ℕ) (b : List ℕ) (m : ℕ) → 1 ≤ m → m ≤ max_pairs → has_room t (counts k) ≡ true → accepted (body_verdict t b n m) ≡ true
      → RangedFrom 0 (with_body t b m k)
  unfolding has_room body_verdict with_body counts pick
  body-ranged t b m f l = go (eqb t 1) (eqb t 2) (eqb t 3) (eqb t 4)
    where
      go : (p q s u : Bool)
          → pick p (ltb n max_words)
          (pick q (ltb (length k.tempos) max_tempos)
          (pick s (ltb (length k.anchors) max_anchors)
          (pick u (ltb (length k.spans) max_spans) true))) ≡ true
          → accepted (pick p (word_verdict b) (pick q (tempo_verdict b n m) (pick s (anchor_verdict b n m) (pick u (span_verdict b n m) (cap_verdict b)))))
          ≡ true
          → RangedFrom 0
          (pick p (with_word (word_from b) k)
          (pick q (with_tempo (tempo_from b m) k)
          (pick s (with_anchor (anchor_from b m) k)
          (pick u (with_span (span_from b m) k)
          (with_cap (u32_at b 0) k)))))
      go true q s u h e = word-added (word_from b) (ltb-true _ _ h) (word-ranged b e)
      go false true s u h e = tempo-added (tempo_from b m) (ltb-true _ _ h) (tempo-ranged b n m f l e)
      go false false true u h e = anchor-added (anchor_from b m) (ltb-true _ _ h) (anchor-ranged b n m f l e)
      go false false false true h e = span-added (span_from b m) (ltb-true _ _ h) (span-ranged b n m f l e)
      go false false false false h e = cap-added b e

-- ---- the file
count-small : (t n : ℕ) → count t n ≤ max_pairs
unfolding count pairs_in
count-small t n =
    keep (eqb t 1) (keep (eqb n 20) (omega arith) (omega arith))
    (keep (eqb t 2) (in_small 7)
    (keep (eqb t 3) (in_small 5)
    (keep (eqb t 4) (in_small 9)
    (keep (eqb n 4) (omega arith) (omega arith)))))
  where
    keep : (t : Bool) {x y : ℕ} → x ≤ max_pairs → y ≤ max_pairs → pick t x y ≤ max_pairs
    keep t p q = pick_keep (λ m. m ≤ max_pairs) t p q

    in_small : (f : ℕ) → pairs_in f n ≤ max_pairs
    in_small f =
        keep (eqb n (f + 2)) (omega arith)
        (keep (eqb n (f + 4)) (omega arith)
        (keep (eqb n (f + 6)) (omega arith)
        (keep (eqb n (f + 8)) (omega arith) (omega arith))))

field-ranged : (s : List ℕ) (last : ℕ) (k : Block) → RangedFrom 0 k → accepted (field_verdict s last (counts k)) ≡ true → RangedFrom 0 (with_field s k)
unfolding field_verdict counts
field-ranged s last k r e =
    let h = after-held (head_verdict s last (counts k)) _ e in
    let w = whole s last (counts k) h.0 in
    body-ranged k r (tag s) (body s) (count_of s) w.fits (count-small (tag s) (len s)) w.room h.1

-- the end, where there is a word
some-ranged : (last : ℕ) (b : Block) → RangedFrom 0 b → accepted (end_verdict last (length b.words)) ≡ true → Ranged b
unfolding end_verdict accepted
some-ranged last b r h =
    let p = need-held (leb 1 (length b.words)) (Err OutOfOrder) _ refl h in
    from-parts b (leb-true _ _ p.0) r.words r.tempos r.anchors r.spans r.cap
    r.each_word r.each_tempo r.each_anchor r.each_span

end_ranged : (last : ℕ) (b k : Block) → RangedFrom 0 b → outcome (end_verdict last (length b.words)) b ≡ block k → Ranged k
unfolding pick
end_ranged last b k r e = go (accepted (end_verdict last (length b.words))) refl e
  where
    go : (t : Bool) → accepted (end_verdict last (length b.words)) ≡ t
        → pick t (block b) (refused (number (end_verdict last (length b.words)))) ≡ block k → Ranged k
    go true h p = let z : b ≡ k = cc in subst Ranged z (some-ranged last b r h)
    go false h p = absurd (let z : ◌≡◌ {A = ℕ} 0 1 = cc in omega arith)

fields-ranged : (most : ℕ) (s : List ℕ) (last : ℕ) (b k : Block) → RangedFrom 0 b → fields most s last b ≡ block k → Ranged k
unfolding fields pick
fields-ranged zero s last b k r e = end_ranged last b k r e
fields-ranged (suc most) s last b k r e =
    go (eqb (length s) 0) (accepted (field_verdict s last (counts b))) (fields-ranged most (drop (3 + len s) s) (tag s) (with_field s b) k) refl e
  where
    rest : Outcome
    rest = fields most (drop (3 + len s) s) (tag s) (with_field s b)

    go : (t u : Bool) → (RangedFrom 0 (with_field s b) → rest ≡ block k → Ranged k) → accepted (field_verdict s last (counts b)) ≡ u
        → pick t (outcome (end_verdict last (length b.words)) b) (pick u rest (refused (number (field_verdict s last (counts b))))) ≡ block k
        → Ranged k
    go true u later f p = end_ranged last b k r p
    go false true later f p = later (field-ranged s last b r f) p
    go false false later f p = absurd (let z : ◌≡◌ {A = ℕ} 0 1 = cc in omega arith)

empty-ranged : RangedFrom 0 empty
empty-ranged =
    from-parts empty zero-le zero-le zero-le zero-le zero-le zero-le
    (λ i h. absurd (not-suc-le-zero h)) (λ j h. absurd (not-suc-le-zero h)) (λ k h. absurd (not-suc-le-zero h)) (λ k h. absurd (not-suc-le-zero h))

pub read-ranged : (s : List ℕ) (b : Block) → read s ≡ block b → Ranged b
unfolding read
read-ranged s b e = fields-ranged (length s) s 0 empty b empty-ranged e
