-- The service by its cases, and what follows of an answer.
use Rattle.std.proofs.Math.Path.{◌≡◌, refl, ap, subst}
use Rattle.std.proofs.Common.{sym, ◌∙◌, inl, arith, lit<}
use Rattle.std.specs.Prelude.{◌⊎◌, Bool, List, ℕ, ◌+◌, ◌≤◌, ◌<◌, length, Float}
use Rattle.std.proofs.Math.Logic.{inr, ⊎_elim}
use Rattle.std.proofs.Math.Bool.{true, false}
use Rattle.std.proofs.Math.Dec.{leb}
use borrow.Author.Tests.{le-leb, lt-leb, leb-true}
use Rattle.folds.specs.Fold.{pick, pick_true, pick_false, pick_keep}
use Rattle.block.specs.Block.{Block}
use Rattle.block.specs.Keeps.{bounded_true}
use Rattle.block.specs.Ranges.{Ranged}
use Rattle.format.specs.Read.{Outcome, read}
use Rattle.format.specs.InRange.{read-ranged}
use Rattle.gap.specs.Prices.{price_count}
use Rattle.answer.specs.File.{Answer, file_size}
use Rattle.iterate.specs.declared.SolveError.TheVariants.{NonFiniteCovariance, SingularCovariance, Unbounded, NotConverged}
use Rattle.minimum.specs.Capped as Engine
use Rattle.minimum.specs.Capped.{Capped, optimal}
use Rattle.outputs.specs.Capped.{CappedAnswer, wrong_shape, blank_bound, engine, number}
use Rattle.outputs.specs.Piecewise.{error_number}
use Rattle.outputs.specs.Capped.{number-optimal, number-non_finite, number-singular, number-not_converged}
use Rattle.rounding.specs.Lists.{times_of, prices_of}
use Rattle.block_solve.specs.Solve.{solve_block}
use Rattle.block_solve.specs.Laws.{solved-sized, engine_always, solved-bounded}
use Rattle.placement.specs.Placed.{Placed, answered, refused, answer_for, written}
use Rattle.placement.specs.Laws.{plan-and-prices, written_by}
use Rattle.service.specs.Place.{of_engine, place_block, place_read, place, number_of}
use Rattle.service.specs.Promise.{Answers}

-- ---- a block: 8, what the engine refuses, and its answer
module _ (b : Block) (room : ℕ) where
  pub too_small : room < file_size (length b.words) (price_count b + 1) → refused 8 ≡ place_block b room
  unfolding place_block
  too_small h = pick_false _ _ (lt-leb _ _ h) refl

  module _ (h : file_size (length b.words) (price_count b + 1) ≤ room) where
    pub engine-refused : (n : ℕ) → n ≡ number (solve_block b) → (n ≡ 0 → ⊥) → refused n ≡ place_block b room
    unfolding place_block of_engine
    engine-refused n e z = pick_true _ _ (le-leb _ _ h) (refuses (solve_block b) e)
      where
        refuses : (a : CappedAnswer) → n ≡ number a → refused n ≡ of_engine b a
        refuses wrong_shape q = ap refused q
        refuses blank_bound q = ap refused q
        refuses (engine (optimal x multipliers passes raise)) q = absurd (z (q ∙ number-optimal x multipliers passes raise))
        refuses (engine (Engine.refused e)) q = ap refused q

    pub engine-answers : {d : Placed} (x multipliers : List Float) (passes : ℕ) (raise : Float)
        → solve_block b ≡ engine (optimal x multipliers passes raise) → d ≡ written b x multipliers passes raise → d ≡ place_block b room
    unfolding place_block of_engine
    engine-answers x multipliers passes raise e q = pick_true _ _ (le-leb _ _ h) (rw e q)

-- ---- the engine's number, where it is no refusal's
pub number-none : (a : CappedAnswer) → (0 < number a → 15 < number a) → number a ≡ 0
unfolding number error_number
number-none wrong_shape h = absurd (let l = h (lit< tt) in omega arith)
number-none blank_bound h = absurd (let l = h (lit< tt) in omega arith)
number-none (engine (optimal x multipliers passes raise)) h = refl
number-none (engine (Engine.refused NonFiniteCovariance)) h = absurd (let l = h (lit< tt) in omega arith)
number-none (engine (Engine.refused SingularCovariance)) h = absurd (let l = h (lit< tt) in omega arith)
number-none (engine (Engine.refused Unbounded)) h = absurd (let l = h (lit< tt) in omega arith)
number-none (engine (Engine.refused NotConverged)) h = absurd (let l = h (lit< tt) in omega arith)

-- ---- the block's refusals
module _ (s : List ℕ) (room : ℕ) where
  pub block-refused : (n : ℕ) → read s ≡ Outcome.refused n → refused n ≡ place s room
  unfolding place place_read
  block-refused n e = rw e

  pub block-placed : (b : Block) → read s ≡ Outcome.block b → place_block b room ≡ place s room
  unfolding place place_read
  block-placed b e = rw e

-- ---- the number for a block that is read is 0, 8, 11, 12 or 14: the engine gives no 9, 10 or 13 here, and the gap fits, so 15 is none either
abbrev pub Numbered : Placed → Type 0
Numbered p = let n = number_of p in (n ≡ 0) ⊎ ((n ≡ 8) ⊎ ((n ≡ 11) ⊎ ((n ≡ 12) ⊎ (n ≡ 14))))

module _ {b : Block} (R : Ranged b) where
  written-numbered : (x multipliers : List Float) (passes : ℕ) (raise : Float) → solve_block b ≡ engine (optimal x multipliers passes raise)
      → Numbered (written b x multipliers passes raise)
  unfolding number_of
  written-numbered x multipliers passes raise s =
      let z = solved-sized b x multipliers passes raise s in
      ⊎_elim (λ e. subst Numbered (sym e.1) (inl refl)) (λ e. subst Numbered (sym e) (inr (inr (inr (inr refl)))))
      (written_by R x multipliers raise z.x_long z.multipliers_long passes)

  engine-numbered : (o : Capped) → solve_block b ≡ engine o → Numbered (of_engine b (engine o))
  unfolding of_engine number_of
  engine-numbered (optimal x multipliers passes raise) s = written-numbered x multipliers passes raise s
  engine-numbered (Engine.refused NonFiniteCovariance) s = inr (inr (inl number-non_finite))
  engine-numbered (Engine.refused SingularCovariance) s = inr (inr (inr (inl number-singular)))
  engine-numbered (Engine.refused Unbounded) s = absurd (solved-bounded b s)
  engine-numbered (Engine.refused NotConverged) s = inr (inr (inr (inr number-not_converged)))

  block-numbered : (room : ℕ) → Numbered (place_block b room)
  unfolding place_block number_of
  block-numbered room =
      let a = engine_always b R in
      pick_keep Numbered _ (subst (λ (e : CappedAnswer). Numbered (of_engine b e)) (sym a.1) (engine-numbered a.0 a.1)) (inr (inl refl))

pub place-numbered : (s : List ℕ) (room : ℕ) (b : Block) → read s ≡ Outcome.block b → Numbered (place s room)
place-numbered s room b e = subst Numbered (block-placed s room b e) (block-numbered (read-ranged s b e) room)

-- ---- what follows of an answer
module _ {b : Block} (R : Ranged b) {a : Answer} where
  written-answer : (x multipliers : List Float) (passes : ℕ) (raise : Float) → solve_block b ≡ engine (optimal x multipliers passes raise)
      → written b x multipliers passes raise ≡ answered a → Answers b a
  written-answer x multipliers passes raise s e =
      let z = solved-sized b x multipliers passes raise s in
      ⊎_elim
      (λ w.
      let same : answer_for b (times_of x) (prices_of multipliers raise) passes ≡ a = cc in
      subst (Answers b) same
      (record {
        ranged = plan-and-prices R x multipliers raise z.x_long z.multipliers_long w.0;
        bounded = bounded_true b (times_of x) w.0;
        gap_is = refl;
        x = x;
        multipliers = multipliers;
        raise = raise;
        solved = s;
        passes_few = z.passes_few;
      }))
      (λ w. absurd (let y : ◌≡◌ {A = ℕ} 0 1 = cc in omega arith))
      (written_by R x multipliers raise z.x_long z.multipliers_long passes)

  engine-answer : (e : CappedAnswer) → solve_block b ≡ e → of_engine b e ≡ answered a → Answers b a
  unfolding of_engine
  engine-answer wrong_shape s e = absurd (let z : ◌≡◌ {A = ℕ} 0 1 = cc in omega arith)
  engine-answer blank_bound s e = absurd (let z : ◌≡◌ {A = ℕ} 0 1 = cc in omega arith)
  engine-answer (engine (optimal x multipliers passes raise)) s e = written-answer x multipliers passes raise s e
  engine-answer (engine (Engine.refused error)) s e = absurd (let z : ◌≡◌ {A = ℕ} 0 1 = cc in omega arith)

  -- and the slice has room for it
  pub block-answer : (room : ℕ) → place_block b room ≡ answered a → Answers b a × (file_size (length b.words) (price_count b + 1) ≤ room)
  unfolding place_block pick
  block-answer room e = go (leb (file_size (length b.words) (price_count b + 1)) room) refl e
    where
      go : (t : Bool) → leb (file_size (length b.words) (price_count b + 1)) room ≡ t → pick t (of_engine b (solve_block b)) (refused 8) ≡ answered a
          → Answers b a × (file_size (length b.words) (price_count b + 1) ≤ room)
      go true h e = (engine-answer (solve_block b) refl e, leb-true _ _ h)
      go false h e = absurd (let z : ◌≡◌ {A = ℕ} 0 1 = cc in omega arith)

-- ---- the answer to a block file
pub record Found (s : List ℕ) (room : ℕ) (a : Answer) : Type 0 where
  pub block : Block
  pub is_read : read s ≡ Outcome.block block
  pub answers : Answers block a
  pub fits : file_size (length block.words) (price_count block + 1) ≤ room

pub place-answer : (s : List ℕ) (room : ℕ) {a : Answer} → place s room ≡ answered a → Found s room a
unfolding place place_read
place-answer s room {a} e = go (read s) refl e
  where
    go : (o : Outcome) → read s ≡ o → place_read o room ≡ answered a → Found s room a
    go (Outcome.refused n) r e = absurd (let z : ◌≡◌ {A = ℕ} 0 1 = cc in omega arith)
    go (Outcome.block b) r e = let w = block-answer (read-ranged s b r) room e in record { block = b; is_read = r; answers = w.0; fits = w.1 }
