-- What an answer to a block is: its sizes, that it is the engine's, and how the code's arrays hold it.
use Rattle.std.specs.Prelude.{◌≡◌, refl, true, false, List, ◌++◌, take, Float}
use Rattle.std.proofs.Math.Path.{sym}
use Rattle.std.proofs.Common.{◌∙◌, ap, ap₂, subst, arith, length-append, take_at}
use Prim.Native.Nat.{ℕ, ◌+◌, ◌*◌, ◌≤◌}
use Rattle.std.proofs.Math.ListN.{length}
use Rattle.block.specs.Block.{Block}
use Rattle.block.specs.Ranges.{Ranged}
use Rattle.format.specs.declared.Block as Held
use Rattle.iterate.specs.declared.SolveError.TheVariants.{Unbounded}
use Rattle.minimum.specs.Capped.{Capped, optimal, refused}
use Rattle.outputs.specs.Capped.{CappedAnswer, engine, Written, optimal-written}
use Rattle.cap.specs.Capped.{solve_turnover_capped}
use Rattle.cap.specs.Laws.{optimal-sized, never_unbounded, engine-answer}
use Rattle.format.specs.Structs.{block_of, Sound}
use Rattle.format.specs.Entries.{words-length, anchors-length, spans-length}
use Rattle.block_cost.specs.Cost.{hessian, linear}
use Rattle.block_cost.specs.Laws.{length-hessian, length-linear}
use Rattle.word_numbers.specs.Words.{keys, slopes, lowers, uppers, starts, cap}
use Rattle.word_numbers.specs.Laws.{length-keys, length-slopes, length-lowers, length-uppers, length-starts}
use Rattle.word_numbers.specs.Exact.{lowers-numbers, uppers-numbers}
use Rattle.block_rows.specs.Rows.{anchor_columns, anchor_values, span_columns, span_lowers, span_uppers}
use Rattle.block_rows.specs.Laws.{length-anchor_columns, length-anchor_values, length-span_columns, length-span_lowers, length-span_uppers}
use Rattle.block_rows.specs.Exact.{span_lowers-numbers, span_uppers-numbers}
use Rattle.quadratic.specs.Quadratic.{Quadratic, quadratic, shaped, blank}
use Rattle.quadratic.specs.Laws.{shaped_yes, blank_no}
use Rattle.block_solve.specs.Solve.{quadratic_of, solve_block, Matrices, Words, Solves}

-- ---- an answer has a weight for each word, a multiplier for each anchor and span, and few passes
pub record Sized (b : Block) (x multipliers : List Float) (passes : ℕ) : Type 0 where
  pub x_long : length x ≡ length b.words
  pub multipliers_long : length multipliers ≡ length b.anchors + length b.spans
  pub passes_few : passes ≤ 100 + 20 * 48

pub solved-sized : (b : Block) (x multipliers : List Float) (passes : ℕ) (raise : Float)
    → solve_block b ≡ engine (optimal x multipliers passes raise) → Sized b x multipliers passes
unfolding solve_block
solved-sized b x multipliers passes raise e =
    let z = optimal-sized _ _ _ _ e in record { x_long = z.0; multipliers_long = z.1; passes_few = z.3 }

-- ---- a block in document 01's ranges is neither 9 nor 10, nor is it ever 13: the answer is the engine's
module _ (b : Block) where
  block-shaped : Ranged b → shaped (quadratic_of b) (length b.words) (length b.anchors + length b.spans) ≡ true
  unfolding quadratic_of
  block-shaped R =
      shaped_yes (length b.words) (length b.anchors) (length b.spans) (hessian b) (linear b) (anchor_columns b) (anchor_values b) (lowers b)
      (uppers b) (span_columns b) (span_lowers b) (span_uppers b) (keys b) (slopes b) (starts b) (length b.words)
      (length b.anchors + length b.spans)
      (record {
        originals = R.words;
        equalities = R.anchors;
        rows = R.spans;
        q_long = length-hessian b;
        c_long = length-linear b;
        e_long = length-anchor_columns b;
        b_long = length-anchor_values b;
        a_long = length-span_columns b;
      })
      (record {
        lower_long = length-lowers b;
        upper_long = length-uppers b;
        row_lower_long = length-span_lowers b;
        row_upper_long = length-span_uppers b;
        at_long = length-keys b;
        slopes_long = length-slopes b;
        start_long = length-starts b;
        x_long = refl;
        multipliers_long = refl;
      })

  block-numbers : Ranged b → blank (length b.words) (length b.spans) (lowers b) (uppers b) (span_lowers b) (span_uppers b) ≡ false
  block-numbers R = blank_no _ _ _ _ _ _ (lowers-numbers R) (uppers-numbers R) (span_lowers-numbers R) (span_uppers-numbers R)

  pub engine_always : Ranged b → (o : Capped) × (solve_block b ≡ engine o)
  unfolding solve_block quadratic_of
  engine_always R = (_, engine-answer _ _ _ _ _ _ _ _ _ _ _ _ _ _ _ _ _ _ (block-shaped R) (block-numbers R))

  pub solved-bounded : solve_block b ≡ engine (refused Unbounded) → ⊥
  unfolding solve_block
  solved-bounded e = never_unbounded _ _ _ _ e

-- ---- the code: the block b of the structs
module _ {b : Held.Block} (S : Sound b) where
  -- the problem of what was gathered
  pub gathered : {q c e v lower upper a row_lower row_upper at slope start : List Float} → Matrices (block_of b) q e a
      → Words (block_of b) c lower upper at slope start → v ≡ anchor_values (block_of b) → row_lower ≡ span_lowers (block_of b)
      → row_upper ≡ span_uppers (block_of b)
      → quadratic b.words b.anchors b.spans q c e v lower upper a row_lower row_upper at slope start ≡ quadratic_of (block_of b)
  unfolding quadratic_of
  gathered M W f g h = λ i.
      quadratic (sym (words-length S) i) (sym (anchors-length S) i) (sym (spans-length S) i) (M.q_is i) (W.c_is i) (M.e_is i) (f i)
      (W.lower_is i) (W.upper_is i) (M.a_is i) (g i) (h i) (W.at_is i) (W.slopes_are i) (W.start_is i)

  -- what the engine's call left in the front of the arrays is the answer
  module _ {p : Quadratic} {k : Float} (e : p ≡ quadratic_of (block_of b)) (f : k ≡ cap (block_of b)) where
    block-is : {i j : ℕ} → i ≡ b.words → j ≡ b.anchors + b.spans → solve_turnover_capped p k i j ≡ solve_block (block_of b)
    unfolding solve_block
    block-is g h =
        λ t. solve_turnover_capped (e t) (f t) ((g ∙ sym (words-length S)) t) ((h ∙ sym (ap₂ ◌+◌ (anchors-length S) (spans-length S))) t)

    pub solves : {x x' μ μ' : List Float} {l l' : ℕ} {r r' : Float} {n : ℕ} (xs μs : List Float) → length x ≡ b.words
        → length μ ≡ b.anchors + b.spans → Written (solve_turnover_capped p k (length x) (length μ)) n x x' μ μ' l l' r r'
        → Solves b (record { number = n; x = x' ++ xs; multipliers = μ' ++ μs; passes = l'; raise = r' })
    solves {x} {x'} {μ} {μ'} {l} {l'} {r} {r'} {n} xs μs g h W =
        let A = subst (λ (a : CappedAnswer). Written a n x x' μ μ' l l' r r') (block-is g h) W in
        record {
          numbered = A.numbered;
          optimal_is = λ z.
              let o = optimal-written (solve_block (block_of b)) A z in
              let Z = solved-sized (block_of b) x' μ' l' r' o in
              o
              ∙ ap₂ (λ (y ν : List Float). engine (optimal y ν l' r')) (sym (take_at x' xs b.words (Z.x_long ∙ words-length S)))
              (sym (take_at μ' μs (b.anchors + b.spans) (Z.multipliers_long ∙ ap₂ ◌+◌ (anchors-length S) (spans-length S))));
        }

-- ---- a list q of n numbers at the front of an array, before r
pub record Front (n : ℕ) (l q : List Float) : Type 0 where
  pub is : l ≡ q
  pub long : length l ≡ n

pub front : {n : ℕ} {l q : List Float} → l ≡ q → length q ≡ n → Front n l q
front e h = record { is = e; long = ap length e ∙ h }

module _ {n : ℕ} {l q : List Float} (F : Front n l q) (r : List Float) where
  pub front_room : n ≤ length (l ++ r)
  front_room = omega (arith, F.long, length-append l r)

  pub front_long : n ≡ length (take n (l ++ r))
  front_long = sym (ap length (take_at l r n F.long) ∙ F.long)

  pub front_is : take n (l ++ r) ≡ q
  front_is = take_at l r n F.long ∙ F.is
