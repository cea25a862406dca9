-- Laws of the definitions: V keeps its n * n elements.
use Rattle.std.specs.Prelude.{◌≡◌, List, ℕ, ◌*◌, length, Float}
use Rattle.std.proofs.Common.{length-set}
use Rattle.std.specs.Float.Ieee.{eq}
use Rattle.folds.specs.Fold.{fold_keep, pick_keep}
use Rattle.folds.specs.Part.{two}
use Rattle.arith.specs.Float.{f0}
use Rattle.columns.specs.Columns.{cell}
use Rattle.angle.specs.declared.Turn.{Turn}
use Rattle.rotation.specs.Rotation.{State, turn_in_row, turn_columns, rotate}

abbrev vectors_of : State → List Float
vectors_of (two a v) = v

abbrev pub Square : ℕ → State → Type 0
Square n s = length (vectors_of s) ≡ n * n

turn_square : (n p q : ℕ) (t : Turn) (v : List Float) → length v ≡ n * n → length (turn_columns n p q t v) ≡ n * n
unfolding turn_columns turn_in_row
turn_square n p q t v e = fold_keep (λ (a : List Float). length a ≡ n * n) n (turn_in_row n p q t) v e (λ k s l h. simp (length-set) h)

pub rotate-square : (n p q : ℕ) (s : State) → Square n s → Square n (rotate n p q s)
unfolding rotate
rotate-square n p q (two a v) e = pick_keep (Square n) (eq (cell a n p q) f0) e (turn_square n p q _ v e)
