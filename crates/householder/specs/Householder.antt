-- `qr` and `q_tr_mul`. Document 01, "The reference build": "Householder (Golub and Van Loan), sign opposite to the leading entry".
use Rattle.std.specs.Prelude.{ℕ, ◌+◌, ◌-◌, ◌*◌, Bool, true, false, List, length, set, get_or, Float}
use Rattle.std.specs.Float.Ieee.{eq, lt}
use Rattle.folds.specs.Fold.{fold, span, all, pick, over, then, Out, out}
use Rattle.folds.specs.Part.{part, on_part, on_part_out, Two, two}
use Rattle.arith.specs.Float.{fsub, fmul, fdiv, fneg, f0, f2, at}
use Rattle.reductions.specs.Reductions.{dot, norm}
use Rattle.vector.specs.Vector.{sub_scaled}

-- "2·(v·y)/(v·v)", left to right
unfoldable pub factor : (v y : List Float) → Float
factor v y = fdiv (fmul f2 (dot (length v) v y)) (dot (length v) v v)

-- "becomes y − v·(2·(v·y)/(v·v)) in the same rows": as many as v has
unfoldable pub reflect : (v y : List Float) → List Float
reflect v y = over (sub_scaled (length v) y v (factor v y)) y

-- the columns from lo to hi - 1 of a matrix of n rows, in the rows from k on
unfoldable pub reflect_columns : (n k lo hi : ℕ) (v a : List Float) → List Float
reflect_columns n k lo hi v a = span lo hi (λ j. on_part (k + j * n) (n + j * n) (reflect v)) a

-- "a zero column": every entry is 0, of either sign
unfoldable pub zero_column : (h : ℕ) (x : List Float) → Bool
zero_column h x = all h (λ i. eq (at x i) f0)

-- the norm r under the "sign opposite to the leading entry, where ±0 counts as positive"
unfoldable pub opposite : (x r : Float) → Float
opposite x r = pick (lt x f0) r (fneg r)

-- of x, h entries: "v is x with its first entry less the norm under that sign"; "a zero column makes no reflection"
unfoldable pub reflector : (h : ℕ) (x : List Float) → Out (List Float)
reflector h x = pick (zero_column h x) (out false x) (out true (set x 0 (fsub (at x 0) (opposite (at x 0) (norm h x)))))

-- column k from its diagonal down
unfoldable pub from_diagonal : (n k : ℕ) (a : List Float) → List Float
from_diagonal n k a = part (k + k * n) (n + k * n) a

-- the columns past k, reflected by the vector that stands in column k
unfoldable pub reflect_rest : (n m k : ℕ) (a : List Float) → List Float
reflect_rest n m k a = reflect_columns n k (k + 1) m (from_diagonal n k a) a

-- column k becomes its reflection vector, and the columns past it are reflected
unfoldable pub qr_column : (n m k : ℕ) (a : List Float) → Out (List Float)
qr_column n m k a = then (λ x. out true (reflect_rest n m k x)) (on_part_out (k + k * n) (n + k * n) (reflector (n - k)) a)

-- whether column k made a reflection
unfoldable pub mark : (k : ℕ) (made : List Bool) → Out (List Float) → Two (List Float) (List Bool)
mark k made (out r a) = two a (set made k r)

unfoldable pub qr_step : (n m k : ℕ) → Two (List Float) (List Bool) → Two (List Float) (List Bool)
qr_step n m k (two a made) = mark k made (qr_column n m k a)

-- the reflection vectors of a (n by m), each in its column from the diagonal down, what they make of the entries above, and which columns made one
unfoldable pub qr : (n m : ℕ) → Two (List Float) (List Bool) → Two (List Float) (List Bool)
qr n m s = fold m (qr_step n m) s

-- the p columns of b, reflected by each in turn
unfoldable pub q_tr_step : (n : ℕ) (a : List Float) (made : List Bool) (p k : ℕ) (b : List Float) → List Float
q_tr_step n a made p k b = pick (get_or made k false) (reflect_columns n k 0 p (from_diagonal n k a) b) b

unfoldable pub q_tr_mul : (n m : ℕ) (a : List Float) (made : List Bool) (p : ℕ) (b : List Float) → List Float
q_tr_mul n m a made p b = fold m (q_tr_step n a made p) b
