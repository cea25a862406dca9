-- Laws of the definitions: each says what a function's calls leave, put together; and what a caller reads of `new`.
use Rattle.std.specs.Prelude.{◌≡◌, Bool, false, List, ℕ, ◌-◌, ◌*◌, ◌≤◌, min, length, take, Float}
use Rattle.std.proofs.Common.{◌∙◌, length-take-le}
use Rattle.folds.specs.Fold.{fold, tab}
use Rattle.folds.specs.Part.{two}
use Rattle.folds.specs.Tab.{length-tab_m}
use Rattle.arith.specs.Float.{f0}
use Rattle.vector.specs.Vector.{sub, filled}
use Rattle.matrix.specs.Matrix.{identity, mul, tr_mul, mul_vec, tr_mul_vec}
use Rattle.householder.specs.Householder.{qr, q_tr_mul}
use Rattle.pivoting.specs.Pivoting.{factored, state_of}
use Rattle.pivoting.specs.Laws.{state-parts}
use Rattle.pivoting.specs.declared.Pivots.{Pivots}
use Rattle.substitution.specs.Substitution.{forward, backward}
use Rattle.constraints.specs.Constraints.{applied, q_transpose, rows_transposed, less_range, completed, null_space}
use Rattle.constraints.specs.Constraints.{constraints, constraints_of, with_null, new, smallest_feasible, multipliers}

pub length-rows_transposed : (n rank d : ℕ) (q : List Float) → length (rows_transposed n rank d q) ≡ n * d
unfolding rows_transposed
length-rows_transposed n rank d q = length-tab_m n d _

module _ (n rank : ℕ) (range : List Float) where
  pub transposed_from : {reflectors reflected q r : List Float} {made marked : List Bool} →
      reflectors ≡ range → made ≡ tab rank (λ _. false) → q ≡ identity n →
      two reflected marked ≡ qr n rank (two reflectors made) → r ≡ q_tr_mul n rank reflected marked n q → r ≡ q_transpose n rank range
  unfolding q_transpose applied
  transposed_from a b c g h = h ∙ rw (c, ← a, ← b, ← g)

  pub less_from : {part spanned r : List Float} (d : ℕ) (null : List Float) →
      part ≡ tr_mul n rank d range null → spanned ≡ mul n rank d range part → r ≡ sub (n * d) null spanned → r ≡ less_range n rank d range null
  unfolding less_range
  less_from d null a b c = c ∙ rw (b, a)

  pub completed-from : {q z r : List Float} →
      q ≡ q_transpose n rank range → z ≡ rows_transposed n rank (n - rank) q → r ≡ fold 2 (λ _. less_range n rank (n - rank) range) z →
      r ≡ completed n rank range
  unfolding completed
  completed-from a b c = c ∙ rw (b, a)

-- left, t and y are what `factored` leaves
pub new-from : (n m p : ℕ) (e left t y range null coefficients : List Float) (r : Pivots) →
    p ≡ min n m → state_of m left t y r ≡ factored n m p e → r.rank ≤ length r.column →
    take (n * r.rank) range ≡ take (n * r.rank) y →
    take (n * (n - r.rank)) null ≡ null_space n r.rank (take (n * r.rank) range) → take (p * m) coefficients ≡ t →
    constraints_of n m range null coefficients r ≡ new n m e
unfolding constraints_of new with_null
new-from n m p e left t y range null coefficients r a g room h i j =
    rw (← a, ← g, state-parts m left t y r, length-take-le r.rank r.column room, i, h, j)

-- what a caller has in its slices
pub new-parts : (n m : ℕ) (e range null coefficients : List Float) (r : Pivots) → constraints_of n m range null coefficients r ≡ new n m e →
    constraints r.rank (take (n * r.rank) range) (take (n * (n - r.rank)) null) (take (min n m * m) coefficients) (take r.rank r.column)
    ≡ new n m e
unfolding constraints_of
new-parts n m e range null coefficients r g = g

module _ {p : ℕ} (n m : ℕ) (range coefficients : List Float) (pivots : List ℕ) (rank : ℕ) (e : p ≡ min n m) where
  pub smallest-from : {x u v z : List Float} (b : List Float) →
      z ≡ filled rank f0 → u ≡ forward p coefficients b pivots rank z → v ≡ u → x ≡ mul_vec n rank range v →
      x ≡ smallest_feasible n m range coefficients b pivots rank
  unfolding smallest_feasible
  smallest-from b c d f g = g ∙ rw (f, d, c, e)

  pub multipliers-from : {x l z h : List Float} (g : List Float) →
      z ≡ filled m f0 → h ≡ tr_mul_vec n rank range g → l ≡ backward p coefficients h pivots rank z → x ≡ l →
      x ≡ multipliers n m range coefficients g pivots rank
  unfolding multipliers
  multipliers-from g c d f i = i ∙ rw (f, c, d, e)
