-- Each definition by its equation, for the crates above; and that no plan with a time outside 0 to 262,144 keeps the bounds.
use Rattle.std.specs.Prelude.{◌≡◌, ◌⊎◌, true, false, List, ℕ, ◌≤◌, ◌<◌, length, ℤ, pos, ◌+ℤ◌, ◌-ℤ◌, ◌*ℤ◌, ◌≤ℤ◌, ◌<ℤ◌}
use Rattle.std.proofs.Math.Path.{refl}
use Rattle.std.proofs.Common.{⊎_elim, arith}
use Rattle.std.specs.Int.Signed.{le_z, lt_z}
use Rattle.folds.specs.Fold.{all, both, pick, false_of}
use Rattle.ints.specs.Diff.{diff, split, maxℤ}
use Rattle.ints.specs.Sum.{Σ}
use Rattle.block.specs.Block.{Block, Word, Item, Tempo, Anchor, Span, word, tempo, anchor, span}
use Rattle.block.specs.Plan.{time, abs, square, product, sum_of, move, moves, bend, off, square_of, squares, bends, cost}
use Rattle.block.specs.Keeps.{anchor_miss, outside, span_miss, window_kept, coef_size, coef_sizes, miss_bounded, moves_bounded, windows_kept}
use Rattle.block.specs.Keeps.{anchors_bounded, spans_bounded, bounded, bounded_true}
use Rattle.block.specs.Gap.{Prices, price, coef_at, coef_of, slope_of, g, anchor_part, span_part, h, line, candidates, least, word_gap, word_gap_of}
use Rattle.block.specs.Gap.{word_gaps, values, ends, gap}
use Rattle.block.specs.Ranges.{max_time, Ranged}

-- ---- a list, a word, a tempo term
pub sum_of-is : (l : List Item) (x : List ℤ) → sum_of l x ≡ Σ (length l) (product l x)
unfolding sum_of
sum_of-is l x = refl

pub coef_of-is : (i : ℕ) (l : List Item) → coef_of i l ≡ Σ (length l) (coef_at i l)
unfolding coef_of
coef_of-is i l = refl

pub coef_sizes-is : (l : List Item) → coef_sizes l ≡ Σ (length l) (coef_size l)
unfolding coef_sizes
coef_sizes-is l = refl

pub move-is : (w : Word) (t : ℤ) → move w t ≡ abs (t -ℤ pos w.key)
unfolding move
move-is w t = refl

pub bend-is : (w : Word) (t : ℤ) → bend w t ≡ pos w.slope *ℤ move w t
unfolding bend
bend-is w t = refl

pub line-is : (w : Word) (h : ℤ) (r : ℕ) (t : ℤ) → line w h r t ≡ h *ℤ t +ℤ (pos w.slope +ℤ pos r) *ℤ move w t
unfolding line
line-is w h r t = refl

pub word_gap-is : (w : Word) (g h : ℤ) (r : ℕ) (t : ℤ) → word_gap w g h r t ≡ g *ℤ t +ℤ bend w t -ℤ least (line w h r) (candidates w)
unfolding word_gap
word_gap-is w g h r t = refl

pub square_of-is : (t : Tempo) (x : List ℤ) → square_of t x ≡ pos t.weight *ℤ square (off t x)
unfolding square_of
square_of-is t x = refl

pub slope_of-is : (t : Tempo) (x : List ℤ) (i : ℕ) → slope_of t x i ≡ pos t.weight *ℤ off t x *ℤ coef_of i t.list
unfolding slope_of
slope_of-is t x i = refl

-- ---- misses and their tests
pub anchor_miss-is : (a : Anchor) (x : List ℤ) → anchor_miss a x ≡ abs (sum_of a.list x -ℤ a.value)
unfolding anchor_miss
anchor_miss-is a x = refl

pub outside-is : (lower upper s : ℤ) → outside lower upper s ≡ pick (lt_z s lower) (lower -ℤ s) (pick (lt_z upper s) (s -ℤ upper) (pos 0))
unfolding outside
outside-is lower upper s = refl

pub span_miss-is : (s : Span) (x : List ℤ) → span_miss s x ≡ outside s.lower s.upper (sum_of s.list x)
unfolding span_miss
span_miss-is s x = refl

pub miss_bounded-is : (miss : ℤ) (l : List Item) → miss_bounded miss l ≡ le_z (pos 2 *ℤ miss) (coef_sizes l)
unfolding miss_bounded
miss_bounded-is miss l = refl

pub window_kept-is : (w : Word) (t : ℤ) → window_kept w t ≡ both (le_z (pos w.lower) t) (le_z t (pos w.upper))
unfolding window_kept
window_kept-is w t = refl

-- ---- a block and a plan
module _ (b : Block) (x : List ℤ) where
  pub moves-is : moves b x ≡ Σ (length b.words) (λ i. move (word b i) (time x i))
  unfolding moves
  moves-is = refl

  pub bends-is : bends b x ≡ Σ (length b.words) (λ i. bend (word b i) (time x i))
  unfolding bends
  bends-is = refl

  pub squares-is : squares b x ≡ Σ (length b.tempos) (λ j. square_of (tempo b j) x)
  unfolding squares
  squares-is = refl

  pub cost-is : cost b x ≡ squares b x +ℤ pos 2 *ℤ bends b x
  unfolding cost
  cost-is = refl

  pub g-is : (i : ℕ) → g b x i ≡ Σ (length b.tempos) (λ j. slope_of (tempo b j) x i)
  unfolding g
  g-is i = refl

  pub windows_kept-is : windows_kept b x ≡ all (length b.words) (λ i. window_kept (word b i) (time x i))
  unfolding windows_kept
  windows_kept-is = refl

  pub moves_bounded-is : moves_bounded b x ≡ le_z (pos 2 *ℤ (moves b x -ℤ pos b.cap)) (pos (length b.words))
  unfolding moves_bounded
  moves_bounded-is = refl

  pub anchors_bounded-is : anchors_bounded b x ≡ all (length b.anchors) (λ k. miss_bounded (anchor_miss (anchor b k) x) (anchor b k).list)
  unfolding anchors_bounded
  anchors_bounded-is = refl

  pub spans_bounded-is : spans_bounded b x ≡ all (length b.spans) (λ k. miss_bounded (span_miss (span b k) x) (span b k).list)
  unfolding spans_bounded
  spans_bounded-is = refl

  pub bounded-is : bounded b x ≡ both (windows_kept b x) (both (moves_bounded b x) (both (anchors_bounded b x) (spans_bounded b x)))
  unfolding bounded
  bounded-is = refl

-- ---- and prices
module _ (b : Block) (p : List ℤ) where
  pub anchor_part-is : (i : ℕ) → anchor_part b p i ≡ Σ (length b.anchors) (λ k. price p k *ℤ coef_of i (anchor b k).list)
  unfolding anchor_part
  anchor_part-is i = refl

  pub span_part-is : (i : ℕ) → span_part b p i ≡ Σ (length b.spans) (λ k. price p k *ℤ coef_of i (span b k).list)
  unfolding span_part
  span_part-is i = refl

  pub values-is : values b p ≡ Σ (length b.anchors) (λ k. price p k *ℤ (anchor b k).value)
  unfolding values
  values-is = refl

  pub ends-is : ends b p ≡ Σ (length b.spans) (λ k. maxℤ (price p k *ℤ (span b k).lower) (price p k *ℤ (span b k).upper))
  unfolding ends
  ends-is = refl

module _ (b : Block) (x : List ℤ) (p : Prices) where
  pub h-is : (i : ℕ) → h b x p i ≡ g b x i +ℤ anchor_part b p.anchors i +ℤ span_part b p.spans i
  unfolding h
  h-is i = refl

  pub word_gap_of-is : (i : ℕ) → word_gap_of b x p i ≡ word_gap (word b i) (g b x i) (h b x p i) p.cap (time x i)
  unfolding word_gap_of
  word_gap_of-is i = refl

  pub word_gaps-is : word_gaps b x p ≡ Σ (length b.words) (word_gap_of b x p)
  unfolding word_gaps
  word_gaps-is = refl

  pub gap_is : gap b x p
      ≡ pos 2 *ℤ word_gaps b x p +ℤ pos 2 *ℤ values b p.anchors +ℤ pos 2 *ℤ ends b p.spans +ℤ pos 2 *ℤ (pos p.cap *ℤ pos b.cap)
  unfolding gap
  gap_is = refl

-- ---- a time before 0 or past 262,144 is in no window, so the plan is not within its bounds
below : (n : ℕ) (t : ℤ) → t <ℤ pos 0 → pos n ≤ℤ t → ⊥
below n = split _ λ a b. simp diff (omega arith)

beyond : (n : ℕ) (t : ℤ) → n ≤ max_time → pos max_time <ℤ t → t ≤ℤ pos n → ⊥
beyond n = split _ λ a b. simp diff (omega arith)

pub bounded_far : {b : Block} → Ranged b → (x : List ℤ) (i : ℕ) → i < length b.words
    → (time x i <ℤ pos 0) ⊎ (pos max_time <ℤ time x i) → bounded b x ≡ false
bounded_far {b} R x i l far =
    false_of (bounded b x)
    (λ e.
    let w = (bounded_true b x e).windows i l in
    ⊎_elim (λ h. below (word b i).lower (time x i) h w.0) (λ h. beyond (word b i).upper (time x i) (R.each_word i l).upper h w.1) far)
