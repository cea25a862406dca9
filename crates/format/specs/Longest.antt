-- The longest block has 2,343 bytes, and what stands after it is judged by its header alone: no byte past the first 2,346 changes the reading.
use Rattle.std.specs.Prelude.{◌≡◌, Bool, ℕ, zero, suc, ◌+◌, ◌*◌, ◌-◌, ◌≤◌, ltb, eqb, length, take, drop, Err}
use Rattle.std.proofs.Math.Path.{refl, ap, ap₂}
use Rattle.std.proofs.Common.{sym, ◌∙◌, not-suc-le-zero, le_refl, arith, lit≤, length-append, length-drop, take_all, take-take, get_or-take, length-take-le}
use Rattle.std.proofs.Math.Bool.{true, false}
use mathlib.Core.List.{List, [], ◌∷◌}
use Rattle.std.proofs.Math.Dec.{leb}
use Rattle.std.proofs.Math.Seq.{take-nil}
use borrow.Author.Tests.{leb-true, leb-false, ltb-true, le-leb, eqb-true, ne_eqb}
use Rattle.folds.specs.Fold.{pick, pick_true, pick_false, both, both_true, false_true}
use Rattle.block.specs.Block.{Block}
use Rattle.block.specs.Ranges.{max_words, max_tempos, max_anchors, max_spans}
use Rattle.format.specs.Read.{Verdict, Accepted, number, accepted, need, after, u16_at, tag, len, body, one_to, in_order, cap_tag, pairs_in, count, count_of, has_room}
use Rattle.format.specs.Read.{head_verdict, body_verdict, field_verdict, word_from, tempo_from, anchor_from, span_from, with_body, with_field}
use Rattle.format.specs.Read.{Outcome, refused, outcome, end_verdict, counts, fields, empty, read}
use Rattle.format.specs.Laws.{need-held, after-held}
use Rattle.format.specs.declared.Counts.{Counts}
use Rattle.format.specs.declared.Refusal.TheVariants.{BadLength, UnknownTag, OutOfOrder, TooMany}

-- ---- how many bytes the fields after those of b have at most, `last` the tag of the last of b: with its header a word has 23 bytes, a tempo, an
-- anchor and a span of four pairs have 18, 16 and 20, the cap 7
unfoldable cap_left : ℕ → ℕ
cap_left last = pick (ltb last cap_tag) 7 0

unfoldable left : ℕ → Block → ℕ
left last b =
    23 * (max_words - length b.words)
    + 18 * (max_tempos - length b.tempos)
    + 16 * (max_anchors - length b.anchors)
    + 20 * (max_spans - length b.spans)
    + cap_left last

one-is : (t : Bool) → 1 ≤ pick t 1 0 → t ≡ true
unfolding pick
one-is true h = refl
one-is false h = absurd (not-suc-le-zero h)

pairs_long : (f n : ℕ) → 1 ≤ pairs_in f n → n ≤ f + 8
unfolding pairs_in pick
pairs_long f n = go (eqb n (f + 2)) (eqb n (f + 4)) (eqb n (f + 6)) (eqb n (f + 8)) refl refl refl refl
  where
    go : (p q r s : Bool) → eqb n (f + 2) ≡ p → eqb n (f + 4) ≡ q → eqb n (f + 6) ≡ r → eqb n (f + 8) ≡ s
        → 1 ≤ pick p 1 (pick q 2 (pick r 3 (pick s 4 0))) → n ≤ f + 8
    go true q r s a b c d h = omega (arith, eqb-true n (f + 2) a)
    go false true r s a b c d h = omega (arith, eqb-true n (f + 4) b)
    go false false true s a b c d h = omega (arith, eqb-true n (f + 6) c)
    go false false false true a b c d h = omega (arith, eqb-true n (f + 8) d)
    go false false false false a b c d h = absurd (not-suc-le-zero h)

-- before a field in order there is no cap
before-cap : (last t : ℕ) → in_order last t ≡ true → cap_left last ≡ 7
unfolding cap_left
before-cap last t o = sym (pick_true _ _ (both_true (ltb last cap_tag) (leb last t) o).0 refl)

-- a field whose header is accepted is among them
field-left : (last t n : ℕ) (q : List ℕ) (c : ℕ) (b : Block) → one_to cap_tag t ≡ true → in_order last t ≡ true → has_room t (counts b) ≡ true
    → 1 ≤ count t n → 3 + n + left t (with_body t q c b) ≤ left last b
unfolding left cap_left has_room counts count with_body pick both
field-left last zero n q c b p o r k = absurd (false_true p)
field-left last (suc zero) n q c b p o r k =
    omega (
      arith,
      before-cap last 1 o,
      ltb-true (length b.words) 32 r,
      eqb-true n 20 (one-is (eqb n 20) k),
      length-append b.words (word_from q ∷ []),
    )
field-left last (suc (suc zero)) n q c b p o r k =
    omega (arith, before-cap last 2 o, ltb-true (length b.tempos) 64 r, pairs_long 7 n k, length-append b.tempos (tempo_from q c ∷ []))
field-left last (suc (suc (suc zero))) n q c b p o r k =
    omega (arith, before-cap last 3 o, ltb-true (length b.anchors) 8 r, pairs_long 5 n k, length-append b.anchors (anchor_from q c ∷ []))
field-left last (suc (suc (suc (suc zero)))) n q c b p o r k =
    omega (arith, before-cap last 4 o, ltb-true (length b.spans) 16 r, pairs_long 9 n k, length-append b.spans (span_from q c ∷ []))
field-left last (suc (suc (suc (suc (suc zero))))) n q c b p o r k = omega (arith, before-cap last 5 o, eqb-true n 4 (one-is (eqb n 4) k))
field-left last (suc (suc (suc (suc (suc (suc t)))))) n q c b p o r k =
    omega (arith, leb-true (suc (suc (suc (suc (suc (suc t)))))) 5 (both_true (leb 1 (suc (suc (suc (suc (suc (suc t))))))) _ p).1)

-- ---- a field of r, and of the first m bytes of r
need-same : (t : Bool) (v : Verdict) {x y : Verdict} → (t ≡ true → x ≡ y) → need t v x ≡ need t v y
unfolding need
need-same true v h = h refl
need-same false v h = refl

drop-take : (k m : ℕ) (l : List ℕ) → drop k (take m l) ≡ take (m - k) (drop k l)
drop-take zero m l = let z : m ≡ m - 0 = omega arith in ap (λ (n : ℕ). take n l) z
drop-take (suc k) zero l = let z : 0 ≡ 0 - suc k = omega arith in ap (λ (n : ℕ). take n (drop (suc k) l)) z
drop-take (suc k) (suc m) [] = sym (take-nil (suc m - suc k))
drop-take (suc k) (suc m) (x ∷ l) = let z : m - k ≡ suc m - suc k = omega arith in drop-take k m l ∙ ap (λ (n : ℕ). take n (drop k l)) z

-- the verdict on a header with tag t and length n, of a field that has k bytes at most
unfoldable judged : ℕ → Counts → ℕ → ℕ → ℕ → Verdict
judged last so t n k =
    need (leb 3 k) (Err BadLength)
    (need (one_to cap_tag t) (Err UnknownTag)
    (need (in_order last t) (Err OutOfOrder)
    (need (has_room t so) (Err TooMany)
    (need (leb 1 (count t n)) (Err BadLength)
    (need (leb n (k - 3)) (Err BadLength)
    Accepted)))))

judged-same : (last : ℕ) (b : Block) (t n m l : ℕ) → left last b + 3 ≤ m → m ≤ l → judged last (counts b) t n m ≡ judged last (counts b) t n l
unfolding judged need
judged-same last b t n m l h g =
    rw (le-leb 3 m (omega arith), le-leb 3 l (omega arith))
    (need-same (one_to cap_tag t) (Err UnknownTag) λ p.
    need-same (in_order last t) (Err OutOfOrder) λ o.
    need-same (has_room t (counts b)) (Err TooMany) λ r.
    need-same (leb 1 (count t n)) (Err BadLength) λ k.
    let f = field-left last t n [] 0 b p o r (leb-true 1 (count t n) k) in
    rw (le-leb n (m - 3) (omega arith), le-leb n (l - 3) (omega arith)))

module _ (m : ℕ) (r : List ℕ) (last : ℕ) (b : Block) (h : left last b + 3 ≤ m) where
  tag-same : tag (take m r) ≡ tag r
  tag-same = get_or-take m r 0 0 (omega arith)

  len-same : len (take m r) ≡ len r
  unfolding u16_at
  len-same = ap₂ (λ (x y : ℕ). x + 256 * y) (get_or-take m r 1 0 (omega arith)) (get_or-take m r 2 0 (omega arith))

  head_same : head_verdict (take m r) last (counts b) ≡ head_verdict r last (counts b)
  unfolding head_verdict judged
  head_same =
      ap₂ (λ (t n : ℕ). judged last (counts b) t n (length (take m r))) tag-same len-same
      ∙ go (leb (length r) m) refl
    where
      go : (t : Bool) → leb (length r) m ≡ t
          → judged last (counts b) (tag r) (len r) (length (take m r)) ≡ judged last (counts b) (tag r) (len r) (length r)
      go true e = ap (λ (l : List ℕ). judged last (counts b) (tag r) (len r) (length l)) (take_all m r (leb-true _ _ e))
      go false e =
          let g = leb-false (length r) m e in
          ap (judged last (counts b) (tag r) (len r)) (length-take-le m r (omega arith))
          ∙ judged-same last b (tag r) (len r) m (length r) h (omega arith)

  module _ (e : accepted (head_verdict r last (counts b)) ≡ true) where
    within : 3 + len r + left (tag r) (with_field r b) ≤ left last b
    unfolding head_verdict accepted
    within =
        let p₀ = need-held (leb 3 (length r)) (Err BadLength) _ refl e in
        let p₁ = need-held (one_to cap_tag (tag r)) (Err UnknownTag) _ refl p₀.1 in
        let p₂ = need-held (in_order last (tag r)) (Err OutOfOrder) _ refl p₁.1 in
        let p₃ = need-held (has_room (tag r) (counts b)) (Err TooMany) _ refl p₂.1 in
        let p₄ = need-held (leb 1 (count_of r)) (Err BadLength) _ refl p₃.1 in
        field-left last (tag r) (len r) (body r) (count_of r) b p₁.0 p₂.0 p₃.0 (leb-true 1 (count_of r) p₄.0)

    body-same : body (take m r) ≡ body r
    body-same =
        ap₂ (λ (n : ℕ) (l : List ℕ). take n l) len-same (drop-take 3 m r)
        ∙ take-take (len r) (m - 3) (drop 3 r) (omega (arith, within))

    field-same : with_field (take m r) b ≡ with_field r b
    field-same =
        ap₂ (λ (t n : ℕ). with_body t (body (take m r)) (count t n) b) tag-same len-same
        ∙ ap (λ (q : List ℕ). with_body (tag r) q (count_of r) b) body-same

    rest-same : drop (3 + len (take m r)) (take m r) ≡ take (m - (3 + len r)) (drop (3 + len r) r)
    rest-same = ap (λ (n : ℕ). drop (3 + n) (take m r)) len-same ∙ drop-take (3 + len r) m r

  verdict_same : field_verdict (take m r) last (counts b) ≡ field_verdict r last (counts b)
  unfolding field_verdict
  verdict_same =
      ap (λ (v : Verdict). after v (body_verdict (tag (take m r)) (body (take m r)) (counts b).words (count_of (take m r)))) head_same
      ∙ need-same (accepted (head_verdict r last (counts b))) (head_verdict r last (counts b))
      (λ e.
      ap₂ (λ (t n : ℕ). body_verdict t (body (take m r)) (counts b).words (count t n)) tag-same len-same
      ∙ ap (λ (q : List ℕ). body_verdict (tag r) q (counts b).words (count_of r)) (body-same e))

-- ---- the fields
ended : (most last : ℕ) (b : Block) → fields most [] last b ≡ outcome (end_verdict last (length b.words)) b
unfolding fields pick
ended zero last b = refl
ended (suc most) last b = refl

-- those of r are those of its first m bytes, where r has at most `most` bytes
abbrev Same : ℕ → Type 0
Same most = (few : ℕ) (r : List ℕ) (m last : ℕ) (b : Block) → length r ≤ most → length (take m r) ≤ few → left last b + 3 ≤ m
    → fields most r last b ≡ fields few (take m r) last b

pick-same : {A : Type 0} (t : Bool) {x y : A} (z : A) → (t ≡ true → x ≡ y) → pick t x z ≡ pick t y z
unfolding pick
pick-same true z h = h refl
pick-same false z h = refl

head_held : (s : List ℕ) (last : ℕ) (so : Counts) → accepted (field_verdict s last so) ≡ true → accepted (head_verdict s last so) ≡ true
unfolding field_verdict
head_held s last so e = (after-held (head_verdict s last so) _ e).0

-- the fields of s, with at least one byte, after a field of tag `last`
unfoldable further : ℕ → List ℕ → ℕ → Block → Outcome
further most s last b =
    let v = field_verdict s last (counts b) in
    pick (accepted v) (fields most (drop (3 + len s) s) (tag s) (with_field s b)) (refused (number v))

further-same : (most few : ℕ) (s : List ℕ) (m last : ℕ) (b : Block) → length s ≤ suc most → length (take m s) ≤ suc few → left last b + 3 ≤ m
    → Same most → further most s last b ≡ further few (take m s) last b
unfolding further
further-same most few s m last b p q h same =
    pick-same (accepted (field_verdict s last (counts b))) _ (λ e. go (head_held s last (counts b) e))
    ∙ ap (λ (v : Verdict). pick (accepted v) after-cut (refused (number v))) (sym (verdict_same m s last b h))
  where
    after-cut : Outcome
    after-cut = fields few (drop (3 + len (take m s)) (take m s)) (tag (take m s)) (with_field (take m s) b)

    go : accepted (head_verdict s last (counts b)) ≡ true → fields most (drop (3 + len s) s) (tag s) (with_field s b) ≡ after-cut
    go e =
        let i = within m s last b h e in
        let d = rest-same m s last b h e in
        same few (drop (3 + len s) s) (m - (3 + len s)) (tag s) (with_field s b)
        (omega (arith, length-drop (3 + len s) s))
        (omega (arith, ap length d, length-drop (3 + len (take m s)) (take m s)))
        (omega arith)
        ∙ sym (ap (λ (l : List ℕ). fields few l (tag (take m s)) (with_field (take m s) b)) d
        ∙ ap₂ (λ (t : ℕ) (k : Block). fields few (take (m - (3 + len s)) (drop (3 + len s) s)) t k) (tag-same m s last b h)
        (field-same m s last b h e))

none-same : (most few m last : ℕ) (b : Block) → fields most [] last b ≡ fields few (take m []) last b
none-same most few m last b = ended most last b ∙ sym (ap (λ (l : List ℕ). fields few l last b) (take-nil m) ∙ ended few last b)

some-is : (most x : ℕ) (r : List ℕ) (last : ℕ) (b : Block) → fields (suc most) (x ∷ r) last b ≡ further most (x ∷ r) last b
unfolding fields further
some-is most x r last b = sym (pick_false _ _ (ne_eqb (suc (length r)) 0 (λ e. omega arith)) refl)

next-same : (most : ℕ) → Same most → Same (suc most)
next-same most same few [] m last b p q h = none-same (suc most) few m last b
next-same most same few (x ∷ r) zero last b p q h = absurd (omega arith)
next-same most same zero (x ∷ r) (suc m) last b p q h = absurd (not-suc-le-zero q)
next-same most same (suc few) (x ∷ r) (suc m) last b p q h =
    some-is most x r last b ∙ further-same most few (x ∷ r) (suc m) last b p q h same ∙ sym (some-is few x (take m r) last b)

empty-same : Same 0
empty-same few [] m last b p q h = none-same 0 few m last b
empty-same few (x ∷ r) m last b p q h = absurd (not-suc-le-zero p)

fields-same : (most : ℕ) → Same most
fields-same zero = empty-same
fields-same (suc most) = next-same most (fields-same most)

-- ---- the longest block and one header; with a byte fewer a field after that block would be torn
abbrev pub enough : ℕ
enough = 2346

pub read-enough : (s : List ℕ) → read s ≡ read (take enough s)
unfolding read left cap_left pick
read-enough s = fields-same (length s) (length (take enough s)) s enough 0 empty (le_refl (length s)) (le_refl (length (take enough s))) (lit≤ tt)

-- so the first n bytes of `kept`, which has room for as many or more, tell the reading of every file of which they are all that there is room for
pub read-kept : (file kept : List ℕ) (n : ℕ) → enough ≤ length kept → take (length kept) file ≡ take n kept → read (take n kept) ≡ read file
read-kept file kept n h e =
    ap read (sym e) ∙ read-enough (take (length kept) file) ∙ ap read (take-take enough (length kept) file h) ∙ sym (read-enough file)
