-- qp.rs, `Factoring`: a Cholesky factor of Q's block on the free variables, kept from one iteration to the next, and the last set whose block was
-- singular. Q is n by n. The factor itself stands over the start of a list of its own, l.
use Rattle.std.specs.Prelude.{ℕ, ◌*◌, ◌≤◌, ◌≡◌, Bool, true, false, List, length, Float}
use Rattle.std.proofs.Math.Option.{Option, none, some}
use Rattle.folds.specs.Fold.{all, over, pick, Out, out}
use Rattle.folds.specs.Marks.{contains, rising}
use Rattle.sizes.specs.Sizes as Sizes
use Rattle.matrix.specs.Matrix.{select_rows, select_columns, index}
use Rattle.cholesky.specs.Cholesky.{cholesky, positive_definite}
use Rattle.cholesky.specs.Pivots.{Sounds}
use Rattle.variable_set.specs.Rising.{Rising}
use Rattle.factor_update.specs.Factor.{updated}
use Rattle.factor_update.specs.Block.{Block}
use Rattle.factoring.specs.declared.Factoring.{Factoring}

-- the variables of the factor's block, and those of the last singular one
pub record Kept : Type 0 where
  pub held : Option (List ℕ)
  pub singular : Option (List ℕ)

-- and the factor, which counts where its variables are held
pub data Factor : Type 0 where
  factor : Kept → (l : List Float) → Factor

-- ---- `Factoring::new`, `reset`
unfoldable pub new : Kept
new = record { held = none; singular = none }

unfoldable pub reset : Kept → Kept
reset f = record { held = none; singular = f.singular }

-- `self.factor.insert((indices.to_vec(), factor))`
unfoldable pub with_factor : (indices : List ℕ) → Kept → Kept
with_factor indices f = record { held = some indices; singular = f.singular }

-- `self.singular = Some(indices.to_vec()); return None;`
unfoldable pub with_singular : (indices : List ℕ) → Kept → Kept
with_singular indices f = record { held = none; singular = some indices }

-- ---- afresh
-- `q.select_rows(indices).select_columns(indices)`
unfoldable pub submatrix : (q : List Float) (n : ℕ) (indices : List ℕ) → List Float
submatrix q n indices = let k = length indices in select_columns k (select_rows n n q k indices) k indices

-- `Cholesky::new(a).filter(positive_definite)`, with a k by k
unfoldable pub passing : (k : ℕ) → Out (List Float) → Out (List Float)
passing k (out true l) = out (positive_definite l k) l
passing k (out false l) = out false l

unfoldable pub definite : (k : ℕ) (a : List Float) → Out (List Float)
definite k a = passing k (cholesky k a)

-- of the block, over the start of l
unfoldable pub fresh : (q : List Float) (n : ℕ) (indices : List ℕ) (l : List Float) → Out (List Float)
fresh q n indices l = definite (length indices) (over (submatrix q n indices) l)

-- `let Some(cholesky) = .. else { self.singular = Some(indices.to_vec()); return None; }`
unfoldable pub kept : (indices : List ℕ) → Kept → Out (List Float) → Factor
kept indices f (out true l) = factor (with_factor indices f) l
kept indices f (out false l) = factor (with_singular indices f) l

-- `s.iter().all(|i| indices.binary_search(i).is_ok())`
unfoldable pub contains_all : (indices s : List ℕ) → Bool
contains_all indices s = all (length s) (λ t. contains indices (index s t))

-- `self.singular.as_ref().is_some_and(..)`
unfoldable pub contains_singular : (indices : List ℕ) (singular : Option (List ℕ)) → Bool
contains_singular indices none = false
contains_singular indices (some s) = contains_all indices s

unfoldable pub afresh : (q : List Float) (n : ℕ) (indices : List ℕ) → Kept → (l : List Float) → Factor
afresh q n indices f l = pick (contains_singular indices f.singular) (factor (reset f) l) (kept indices f (fresh q n indices l))

-- ---- `update`
-- `self.factor.take().and_then(|(held, cholesky)| updated(q, held, cholesky, indices))`
unfoldable pub last_updated : (q : List Float) (n : ℕ) (indices : List ℕ) (held : Option (List ℕ)) (l : List Float) → Out (List Float)
last_updated q n indices none l = out false l
last_updated q n indices (some held) l = updated q n held l indices

-- `match updated`: `update` gives the factor where variables are held afterwards
unfoldable pub settled : (q : List Float) (n : ℕ) (indices : List ℕ) → Kept → Out (List Float) → Factor
settled q n indices f (out true l) = factor (with_factor indices f) l
settled q n indices f (out false l) = afresh q n indices f l

unfoldable pub update : (q : List Float) (n : ℕ) (indices : List ℕ) → Kept → (l : List Float) → Factor
update q n indices f l = settled q n indices f (last_updated q n indices f.held l)

-- ---- what the code's record stands for: the marked variables, where the mark beside them says that there are such
abbrev pub list_of : List Bool → List ℕ
list_of s = rising Sizes.originals s

unfoldable pub option_of : (there : Bool) → List Bool → Option (List ℕ)
option_of false s = none
option_of true s = some (list_of s)

unfoldable pub kept_of : Factoring → Kept
kept_of f = record { held = option_of f.factored f.held; singular = option_of f.failed f.singular }

-- ---- what every call keeps: the variables of a factor are below o, and its pivots pass the floor or are NaN
pub record Sound (o : ℕ) (f : Kept) (l : List Float) : Type 0 where
  pub rises : (s : List ℕ) → f.held ≡ some s → Rising o s
  pub pivots : (s : List ℕ) → f.held ≡ some s → Sounds (length s) l

abbrev pub Good : (o : ℕ) → Factoring → (l : List Float) → Type 0
Good o f l = Sound o (kept_of f) l

-- ---- what `update` asks: Q and the list, the kept factor, and room for it and for the block's rows of Q
pub record Updatable (n o : ℕ) (q : List Float) (indices : List ℕ) (f : Factoring) (l room : List Float) : Type 0 where
  pub block : Block n o q
  pub rises : Rising o indices
  pub good : Good o f l
  pub l_holds : o * o ≤ length l
  pub room_holds : o * n ≤ length room
