-- Laws of the definitions: how long each list is, what stands at each place, and what the loops make.
use Rattle.std.specs.Prelude.{◌≡◌, ℕ, ◌+◌, ◌-◌, ◌*◌, ◌<◌, ◌≤◌, List, [], length, take, replicate, ◌≢◌, slice_set, Float}
use Rattle.std.proofs.Math.Path.{refl}
use Rattle.std.proofs.Common.{sym, subst, ◌∙◌, get_or-set_same, get_or-set_other}
use native.Mathlib.Omega.{arith}
use Rattle.std.specs.Float.Ieee.{nan}
use borrow.Author.Tests.{lt-ltb, le-ltb, eq-eqb, ne_eqb}
use Rattle.folds.specs.Fold.{fold, tab, over, pick}
use Rattle.folds.specs.Tab.{length-tab, length-tab_m, get_d_tab, taken-over, over-tab}
use Rattle.folds.specs.Decide.{by_order}
use Rattle.sizes.specs.Sizes as Sizes
use Rattle.arith.specs.Float.{fmul, fneg, f0, f1, at}
use Rattle.vector.specs.Vector.{copy, filled}
use Rattle.vector.specs.Laws.{length-copy, copy-at, length-filled, filled-at, length-mul, mul-at}
use Rattle.columns.specs.Columns.{cell}
use Rattle.matrix.specs.Matrix.{column_dot, tr_mul_vec}
use Rattle.columns.specs.Laws.{cell-tab_m}
use Rattle.matrix.specs.Laws.{tr_mul_vec-at}
use Rattle.segments.specs.declared.Segments.{Segments}
use Rattle.segments.specs.Segments.{Cut, AllCut, segments_at}
use Rattle.slack_scales.specs.Chain.{length_chain, chain_in, chain_past, tab_chain, take_zeros}
use Rattle.slacks.specs.Slacks.{entry_q, with_slacks_q, entry_e, with_slacks_e, with_zeros}
use Rattle.slacks.specs.Slacks.{variable_segments, slack_segments, one_segments, all_segments, unread, segments_array}
use Rattle.slacks.specs.Slacks.{start_with_slacks, slacks_start}

-- ---- Q with the slacks
module _ (n r : ℕ) (q : List Float) where
  pub length-with_slacks_q : length (with_slacks_q n r q) ≡ (n + r) * (n + r)
  unfolding with_slacks_q
  length-with_slacks_q = length-tab_m (n + r) (n + r) (entry_q n q)

  pub with_slacks_q-at : (i j : ℕ) → i < n + r → j < n + r → cell (with_slacks_q n r q) (n + r) i j ≡ entry_q n q i j
  unfolding with_slacks_q
  with_slacks_q-at i j h l = cell-tab_m (n + r) (n + r) i j h l (entry_q n q)

module _ (n : ℕ) (q : List Float) (i j : ℕ) where
  pub entry_q_in : i < n → j < n → entry_q n q i j ≡ cell q n i j
  unfolding entry_q pick
  entry_q_in h l = rw (lt-ltb i n h, lt-ltb j n l)

  -- in a slack's row, and in its column
  pub entry_q-row : n ≤ i → entry_q n q i j ≡ f0
  unfolding entry_q pick
  entry_q-row h = rw (le-ltb i n h)

  pub entry_q-column : i < n → n ≤ j → entry_q n q i j ≡ f0
  unfolding entry_q pick
  entry_q-column h l = rw (lt-ltb i n h, le-ltb j n l)

-- ---- E with the slacks
module _ (n m r : ℕ) (e a : List Float) where
  pub length-with_slacks_e : length (with_slacks_e n m r e a) ≡ (n + r) * (m + r)
  unfolding with_slacks_e
  length-with_slacks_e = length-tab_m (n + r) (m + r) (entry_e n m e a)

  pub with_slacks_e-at : (i j : ℕ) → i < n + r → j < m + r → cell (with_slacks_e n m r e a) (n + r) i j ≡ entry_e n m e a i j
  unfolding with_slacks_e
  with_slacks_e-at i j h l = cell-tab_m (n + r) (m + r) i j h l (entry_e n m e a)

module _ (n m : ℕ) (e a : List Float) where
  pub entry_e-e : (i j : ℕ) → i < n → j < m → entry_e n m e a i j ≡ cell e n i j
  unfolding entry_e pick
  entry_e-e i j h l = rw (lt-ltb i n h, lt-ltb j m l)

  -- beside it, row j's entries
  pub entry_e-a : (i j : ℕ) → i < n → entry_e n m e a i (m + j) ≡ cell a n i j
  unfolding entry_e pick
  entry_e-a i j h = let z : m + j - m ≡ j = omega arith in rw (lt-ltb i n h, le-ltb (m + j) m (omega arith), z)

  -- slack j in its own row's column, and in another
  pub entry_e-slack : (j : ℕ) → entry_e n m e a (n + j) (m + j) ≡ fneg f1
  unfolding entry_e pick
  entry_e-slack j = rw (le-ltb (n + j) n (omega arith), eq-eqb (n + j - n + m) (m + j) (omega arith))

  pub entry_e_other : (j t : ℕ) → (t ≢ m + j) → entry_e n m e a (n + j) t ≡ f0
  unfolding entry_e pick
  entry_e_other j t h = rw (le-ltb (n + j) n (omega arith), ne_eqb (n + j - n + m) t (λ z. h (omega arith)))

-- ---- c and b with the slacks
module _ (n r : ℕ) (v : List Float) where
  pub length-with_zeros : length (with_zeros n r v) ≡ n + r
  unfolding with_zeros
  length-with_zeros = length_chain n r (copy n v) (filled r f0) (length-copy n v) (length-filled r f0)

  pub with_zeros-at : (i : ℕ) → i < n → at (with_zeros n r v) i ≡ at v i
  unfolding with_zeros
  with_zeros-at i h = chain_in nan n i (copy n v) (filled r f0) (length-copy n v) h ∙ copy-at n i h v

  pub with_zeros-slack : (j : ℕ) → j < r → at (with_zeros n r v) (n + j) ≡ f0
  unfolding with_zeros
  with_zeros-slack j h = chain_past nan n j (copy n v) (filled r f0) (length-copy n v) ∙ filled-at r j h f0

  -- the start of v over an array of zeros
  pub with_zeros-taken : {t : List Float} (k : ℕ) → n + r ≤ k → t ≡ over (copy n v) (replicate k f0) → take (n + r) t ≡ with_zeros n r v
  unfolding with_zeros
  with_zeros-taken k h e = take_zeros n r k (copy n v) (length-copy n v) h e

-- ---- the segments
abbrev none : Segments
none = record { points = []; slopes = []; count = 0 }

-- one more of them is cut
pub cut-next : (i : ℕ) (l : List Segments) (s : Segments) → i < length l → Cut s → AllCut i l → AllCut (i + 1) (slice_set l i s)
cut-next i l s h c p k g =
    by_order k i (λ (q : k < i). subst Cut (sym (get_or-set_other l i k s none (λ z. omega arith))) (p k q))
    (λ (z : k ≡ i). subst Cut (sym (rw z (get_or-set_same l i s none h))) c)
    (λ (q : i < k). absurd (omega arith))

module _ (n r : ℕ) (lower upper points slopes row_lower row_upper scales : List Float) where
  abbrev ranges : List Segments
  ranges = tab n (variable_segments lower upper points slopes scales)

  abbrev limits : List Segments
  limits = tab r (slack_segments n row_lower row_upper scales)

  pub length-all_segments : length (all_segments n r lower upper points slopes row_lower row_upper scales) ≡ n + r
  unfolding all_segments
  length-all_segments = length_chain n r ranges limits (length-tab n _) (length-tab r _)

  pub segments_at_lem : (i : ℕ) → i < n →
      segments_at (all_segments n r lower upper points slopes row_lower row_upper scales) i ≡ variable_segments lower upper points slopes scales i
  unfolding all_segments
  segments_at_lem i h = chain_in none n i ranges limits (length-tab n _) h ∙ get_d_tab none n i _ h

  pub segments_slack : (j : ℕ) → j < r →
      segments_at (all_segments n r lower upper points slopes row_lower row_upper scales) (n + j) ≡ slack_segments n row_lower row_upper scales j
  unfolding all_segments
  segments_slack j h = chain_past none n j ranges limits (length-tab n _) ∙ get_d_tab none r j _ h

  pub segments_taken : take (n + r) (segments_array n r lower upper points slopes row_lower row_upper scales)
      ≡ all_segments n r lower upper points slopes row_lower row_upper scales
  unfolding segments_array
  segments_taken = taken-over (n + r) (replicate Sizes.variables unread) length-all_segments refl

  -- what the loop makes
  pub segments_made : {all : List Segments} (k : ℕ) (o : List Segments) → k ≤ n + r → n + r ≤ k → n + r ≤ length o →
      o ≡ replicate Sizes.variables unread → all ≡ fold k (λ t l. slice_set l t (one_segments n lower upper points slopes row_lower row_upper scales t)) o →
      all ≡ segments_array n r lower upper points slopes row_lower row_upper scales
  unfolding one_segments all_segments segments_array
  segments_made k o p q h f e =
      over-tab k (n + r) _ o p q h e
      ∙ rw (f, tab_chain n r (variable_segments lower upper points slopes scales) (slack_segments n row_lower row_upper scales))

-- ---- the start
module _ (n r : ℕ) (start a scales : List Float) where
  pub length-slacks_start : length (slacks_start n r start a scales) ≡ n + r
  unfolding slacks_start
  length-slacks_start = length-mul (n + r) _ scales

  pub start-at : (i : ℕ) → i < n → at (slacks_start n r start a scales) i ≡ fmul (at start i) (at scales i)
  unfolding slacks_start start_with_slacks
  start-at i h =
      mul-at (n + r) i (omega arith) _ scales
      ∙ rw (chain_in nan n i (copy n start) (tr_mul_vec n r a start) (length-copy n start) h, copy-at n i h start)

  -- a slack starts at its row's sum
  pub start-slack : (j : ℕ) → j < r → at (slacks_start n r start a scales) (n + j) ≡ fmul (column_dot n a j start) (at scales (n + j))
  unfolding slacks_start start_with_slacks
  start-slack j h =
      mul-at (n + r) (n + j) (omega arith) _ scales
      ∙ rw (chain_past nan n j (copy n start) (tr_mul_vec n r a start) (length-copy n start), tr_mul_vec-at n r a start j h)
