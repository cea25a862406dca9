-- Laws of the definitions: each column that is taken is one of E's; where the loop starts.
use Rattle.std.specs.Prelude.{◌≡◌, refl, Bool, List, [], ◌∷◌, ◌++◌, ℕ, zero, suc, ◌*◌, ◌<◌, ◌≤◌, length, take, replicate, Float, Option, Some, None}
use Rattle.std.proofs.Common.{◌∙◌, not-suc-le-zero, arith, length-take-le, get_or-take}
use Rattle.std.proofs.Math.Bool.{true, false}
use Rattle.std.specs.Float.Ieee.{le}
use Rattle.folds.specs.Fold.{tab, pick, out, ended, walk_keep}
use Rattle.folds.specs.Part.{Two, two}
use Rattle.folds.specs.Tab.{take-replicate}
use Rattle.arith.specs.Float.{f0}
use Rattle.vector.specs.Vector.{copy, filled, Below}
use Rattle.pivot_choice.specs.PivotChoice.{tolerance, largest_column}
use Rattle.pivot_choice.specs.Laws.{found-below}
use Rattle.pivoting.specs.Pivoting.{Pivoting, pivoting, with_basis, taken, choose, pivot_step, pivoted, factored, state_of, Taken}
use Rattle.pivoting.specs.declared.Pivots.{Pivots}

-- ---- the columns taken
abbrev pivots_of : Pivoting → List ℕ
pivots_of (pivoting left coefficients basis pivots remaining) = pivots

-- each is below m
abbrev AllBelow : ℕ → List ℕ → Type 0
AllBelow m l = Below (length l) l m

push_below : (m j : ℕ) (l : List ℕ) → j < m → AllBelow m l → AllBelow m (l ++ (j ∷ []))
push_below m j [] h p zero k = h
push_below m j [] h p (suc i) k = absurd (omega arith)
push_below m j (x ∷ l) h p zero k = p 0 (omega arith)
push_below m j (x ∷ l) h p (suc i) k = push_below m j l h (λ t q. p (suc t) (omega arith)) i (omega arith)

module _ (n m p : ℕ) (tol : Float) (row : ℕ) where
  ended-pick : (b : Bool) (s t : Pivoting) → AllBelow m (pivots_of s) → AllBelow m (pivots_of t) →
      AllBelow m (pivots_of (ended (pick b (out false s) (out true t))))
  unfolding pick ended
  ended-pick true s t p q = p
  ended-pick false s t p q = q

  with_basis-below : (y basis : List Float) (pivots : List ℕ) (remaining : List Bool) (s : Two (List Float) (List Float)) → AllBelow m pivots →
      AllBelow m (pivots_of (with_basis n row y basis pivots remaining s))
  unfolding with_basis
  with_basis-below y basis pivots remaining (two left coefficients) q = q

  taking_below : (j : ℕ) (norm : Float) (s : Pivoting) → j < m → AllBelow m (pivots_of s) → AllBelow m (pivots_of (taken n m p row j norm s))
  unfolding taken
  taking_below j norm (pivoting left coefficients basis pivots remaining) l q = with_basis-below _ _ _ _ _ (push_below m j pivots l q)

  choose-below : (l : Option (ℕ × Float)) (s : Pivoting) → ((j : ℕ) (norm : Float) → Some (j, norm) ≡ l → j < m) → AllBelow m (pivots_of s) →
      AllBelow m (pivots_of (ended (choose n m p tol row l s)))
  unfolding choose ended
  choose-below None s f q = q
  choose-below (Some c) s f q = ended-pick (le c.1 tol) s (taken n m p row c.0 c.1 s) q (taking_below c.0 c.1 s (f c.0 c.1 refl) q)

  step-below : (s : Pivoting) → AllBelow m (pivots_of s) → AllBelow m (pivots_of (ended (pivot_step n m p tol row s)))
  unfolding pivot_step
  step-below (pivoting left coefficients basis pivots remaining) q =
      choose-below (largest_column n m left remaining) (pivoting left coefficients basis pivots remaining) (found-below n m left remaining) q

factored-below : (n m p : ℕ) (e : List Float) → AllBelow m (pivots_of (factored n m p e))
unfolding factored pivoted
factored-below n m p e =
    walk_keep (λ s. AllBelow m (pivots_of s)) p (pivot_step n m p (tolerance n m e)) _ (λ i l. absurd (not-suc-le-zero l))
    (λ row s l q. step-below n m p (tolerance n m e) row s q)

pub factored-taken : (n m p : ℕ) (e left coefficients basis : List Float) (r : Pivots) → state_of m left coefficients basis r ≡ factored n m p e →
    r.rank ≤ p → r.rank ≤ length r.column → Taken p m r
unfolding state_of
factored-taken n m p e left coefficients basis r g few room =
    let all : AllBelow m (take r.rank r.column) = rw (← g) at (factored-below n m p e) in
    record { few = few; columns = λ i l. rw (get_or-take r.rank r.column i 0 l) at (all i (rw (length-take-le r.rank r.column room) l)) }

-- of the part of the array that is lent
pub taken-below : {p m : ℕ} {r : Pivots} → Taken p m r → Below r.rank (take r.rank r.column) m
taken-below {r = r} t i l = rw (get_or-take r.rank r.column i 0 l) (t.columns i l)

-- ---- the code's record, by its parts
pub state-parts : (m : ℕ) (left coefficients basis : List Float) (r : Pivots) →
    state_of m left coefficients basis r ≡ pivoting left coefficients basis (take r.rank r.column) (take m r.remaining)
unfolding state_of
state-parts m left coefficients basis r = refl

-- ---- where the loop starts: no column is taken, and every one remains
pub state-none : {r : Pivots} (m k : ℕ) (left coefficients basis : List Float) (column : List ℕ) → m ≤ k →
    r ≡ record { column = column; remaining = replicate k true; rank = 0 } →
    state_of m left coefficients basis r ≡ pivoting left coefficients basis [] (tab m (λ _. true))
unfolding state_of
state-none m k left coefficients basis column h e = rw (e, take-replicate m k true h)

pub factored-from : {s start : Pivoting} {left coefficients basis : List Float} {tol : Float} (n m p : ℕ) (e : List Float) →
    s ≡ pivoted n m p tol start → tol ≡ tolerance n m e → start ≡ pivoting left coefficients basis [] (tab m (λ _. true)) →
    left ≡ copy (n * m) e → coefficients ≡ filled (p * m) f0 → basis ≡ filled (n * p) f0 → s ≡ factored n m p e
unfolding factored
factored-from n m p e g a b c d f = g ∙ rw (a, b, c, d, f)
