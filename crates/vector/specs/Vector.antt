-- Vectors made from vectors, element by element: a list and how many of its elements count.
use Rattle.std.specs.Prelude.{ℕ, ◌<◌, List, get_or, Float}
use Rattle.folds.specs.Fold.{tab}
use Rattle.arith.specs.Float.{fadd, fsub, fmul, fdiv, at}

unfoldable pub scaled : (n : ℕ) (a : List Float) (s : Float) → List Float
scaled n a s = tab n (λ k. fmul (at a k) s)

unfoldable pub divided : (n : ℕ) (a : List Float) (s : Float) → List Float
divided n a s = tab n (λ k. fdiv (at a k) s)

unfoldable pub add : (n : ℕ) (a b : List Float) → List Float
add n a b = tab n (λ k. fadd (at a k) (at b k))

unfoldable pub sub : (n : ℕ) (a b : List Float) → List Float
sub n a b = tab n (λ k. fsub (at a k) (at b k))

-- `component_mul`, `component_div`
unfoldable pub mul : (n : ℕ) (a b : List Float) → List Float
mul n a b = tab n (λ k. fmul (at a k) (at b k))

unfoldable pub div : (n : ℕ) (a b : List Float) → List Float
div n a b = tab n (λ k. fdiv (at a k) (at b k))

-- y + x s and y - x s
unfoldable pub add_scaled : (n : ℕ) (y x : List Float) (s : Float) → List Float
add_scaled n y x s = tab n (λ k. fadd (at y k) (fmul (at x k) s))

unfoldable pub sub_scaled : (n : ℕ) (y x : List Float) (s : Float) → List Float
sub_scaled n y x s = tab n (λ k. fsub (at y k) (fmul (at x k) s))

-- `add_scalar`
unfoldable pub add_scalar : (n : ℕ) (a : List Float) (s : Float) → List Float
add_scalar n a s = tab n (λ k. fadd (at a k) s)

unfoldable pub copy : (n : ℕ) (a : List Float) → List Float
copy n a = tab n (λ k. at a k)

unfoldable pub filled : (n : ℕ) (v : Float) → List Float
filled n v = tab n (λ k. v)

-- the first k of the indices are below n
abbrev pub Below : (k : ℕ) (indices : List ℕ) (n : ℕ) → Type 0
Below k l n = (i : ℕ) → i < k → get_or l i 0 < n

-- `select_rows` of a vector: the k elements of a that the list names
unfoldable pub select : (k : ℕ) (a : List Float) (indices : List ℕ) → List Float
select k a l = tab k (λ i. at a (get_or l i 0))
