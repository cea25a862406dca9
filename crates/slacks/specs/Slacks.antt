-- qp.rs, `with_slacks`, and the segments and the start of `solve_piecewise`: a slack for each row.
-- n originals, m equality columns, r rows; Q is n by n, E is n by m, a is n by r. `++` is Rust's `chain`.
use Rattle.std.specs.Prelude.{ℕ, ◌+◌, ◌-◌, ◌≤◌, List, [], ◌∷◌, ◌++◌, length, replicate, ◌==◌, nat_lt, Float}
use Rattle.folds.specs.Fold.{tab, tab_m, over, pick}
use Rattle.sizes.specs.Sizes as Sizes
use Rattle.arith.specs.Float.{fmul, fdiv, fneg, f0, f1, at}
use Rattle.vector.specs.Vector.{copy, filled, mul}
use Rattle.columns.specs.Columns.{cell}
use Rattle.matrix.specs.Matrix.{tr_mul_vec}
use Rattle.segments.specs.declared.Segments.{Segments}
use Rattle.segments.specs.Segments.{new}

-- ---- `with_slacks`
-- `q_all.view_mut((0, 0), (n, n)).copy_from(q)` on zeros
unfoldable pub entry_q : (n : ℕ) (q : List Float) (i j : ℕ) → Float
entry_q n q i j = pick (nat_lt i n) (pick (nat_lt j n) (cell q n i j) f0) f0

unfoldable pub with_slacks_q : (n r : ℕ) (q : List Float) → List Float
with_slacks_q n r q = tab_m (n + r) (n + r) (entry_q n q)

-- `e_all.view_mut((0, 0), (n, m)).copy_from(e)`, `((0, m), (n, r)).copy_from(a)`, `((n, m), (r, r)).fill_diagonal(-1.0)` on zeros
unfoldable pub entry_e : (n m : ℕ) (e a : List Float) (i j : ℕ) → Float
entry_e n m e a i j = pick (nat_lt i n) (pick (nat_lt j m) (cell e n i j) (cell a n i (j - m))) (pick (i - n + m == j) (fneg f1) f0)

unfoldable pub with_slacks_e : (n m r : ℕ) (e a : List Float) → List Float
with_slacks_e n m r e a = tab_m (n + r) (m + r) (entry_e n m e a)

-- `v.iter().copied().chain(std::iter::repeat_n(0.0, r))`
unfoldable pub with_zeros : (n r : ℕ) (v : List Float) → List Float
with_zeros n r v = copy n v ++ filled r f0

-- ---- the segments of `solve_piecewise`
-- `Segments::new(bounds.lower[i] * scale, bounds.upper[i] * scale, kinks.at[i] * scale, kinks.slopes[i] / scale)`
unfoldable pub variable_segments : (lower upper points slopes scales : List Float) (i : ℕ) → Segments
variable_segments lower upper points slopes scales i =
    new (fmul (at lower i) (at scales i)) (fmul (at upper i) (at scales i)) (fmul (at points i) (at scales i)) (fdiv (at slopes i) (at scales i))

-- `Segments::new(rows.lower[j] * scale, rows.upper[j] * scale, 0.0, 0.0)`
unfoldable pub slack_segments : (n : ℕ) (row_lower row_upper scales : List Float) (j : ℕ) → Segments
slack_segments n row_lower row_upper scales j = new (fmul (at row_lower j) (at scales (n + j))) (fmul (at row_upper j) (at scales (n + j))) f0 f0

unfoldable pub one_segments : (n : ℕ) (lower upper points slopes row_lower row_upper scales : List Float) (i : ℕ) → Segments
one_segments n lower upper points slopes row_lower row_upper scales i =
    pick (nat_lt i n) (variable_segments lower upper points slopes scales i) (slack_segments n row_lower row_upper scales (i - n))

unfoldable pub all_segments : (n r : ℕ) (lower upper points slopes row_lower row_upper scales : List Float) → List Segments
all_segments n r lower upper points slopes row_lower row_upper scales =
    tab n (variable_segments lower upper points slopes scales) ++ tab r (slack_segments n row_lower row_upper scales)

-- the array of them; what stands past the slacks' is never read
abbrev pub unread : Segments
unread = record { points = f0 ∷ f0 ∷ f0 ∷ []; slopes = f0 ∷ f0 ∷ []; count = 2 }

unfoldable pub segments_array : (n r : ℕ) (lower upper points slopes row_lower row_upper scales : List Float) → List Segments
segments_array n r lower upper points slopes row_lower row_upper scales =
    over (all_segments n r lower upper points slopes row_lower row_upper scales) (replicate Sizes.variables unread)

-- an entry of the bounds and kinks for each variable, of the rows' limits for each slack, and a scale for either
pub record RangesFit (n r : ℕ) (lower upper points slopes row_lower row_upper scales : List Float) : Type 0 where
  pub originals : n ≤ Sizes.originals
  pub rows : r ≤ Sizes.rows
  pub lowers : n ≤ length lower
  pub uppers : n ≤ length upper
  pub kinks : n ≤ length points
  pub kink_slopes : n ≤ length slopes
  pub row_lowers : r ≤ length row_lower
  pub row_uppers : r ≤ length row_upper
  pub scaled : n + r ≤ length scales

-- ---- the start of `solve_piecewise`
-- `start.iter().copied().chain(rows.a.tr_mul(&start).iter().copied())`, `.component_mul(&units.scales)`
unfoldable pub start_with_slacks : (n r : ℕ) (start a : List Float) → List Float
start_with_slacks n r start a = copy n start ++ tr_mul_vec n r a start

unfoldable pub slacks_start : (n r : ℕ) (start a scales : List Float) → List Float
slacks_start n r start a scales = mul (n + r) (start_with_slacks n r start a) scales
