-- What the engine gets of a block: Q and c. Document 01, "The block file": half the cost is ½ xᵀQx − cᵀx + Σ slope × |x − key| and a constant.
-- Matrices are stored column after column.
use Rattle.std.specs.Prelude.{ℕ, ◌+◌, ◌*◌, List, length, slice_set, Float}
use Rattle.folds.specs.Fold.{fold}
use Rattle.arith.specs.Float.{fadd, fmul, f0, fromℕ, at}
use Rattle.vector.specs.Vector.{filled}
use Rattle.nearest.specs.Value.{fromℤ}
use Rattle.block.specs.Block.{Block, Item, Tempo, tempo, item}

-- entry k of a list grows by v: `a[k] += v`
unfoldable pub plus_at : (a : List Float) (k : ℕ) (v : Float) → List Float
plus_at a k v = slice_set a k (fadd (at a k) v)

-- ---- "Q adds weight × coefficient products"
-- `q[i + j * n] += weight * coefficient * other`, for each other pair of the list: w is weight × coefficient, i the coefficient's word
unfoldable pub add_row : (n : ℕ) (list : List Item) (i : ℕ) (w : Float) (q : List Float) → List Float
add_row n l i w q = fold (length l) (λ k q. plus_at q (i + (item l k).word * n) (fmul w (fromℤ (item l k).coef))) q

-- a tempo's products
unfoldable pub add_products : (n : ℕ) → Tempo → (q : List Float) → List Float
add_products n t q =
    fold (length t.list)
    (λ k q. add_row n t.list (item t.list k).word (fmul (fromℕ t.weight) (fromℤ (item t.list k).coef)) q) q

unfoldable pub hessian : Block → List Float
hessian b =
    fold (length b.tempos) (λ j q. add_products (length b.words) (tempo b j) q) (filled (length b.words * length b.words) f0)

-- ---- "c adds weight × target × coefficient"
-- `c[i] += weight * target * coefficient`, for each pair of a tempo
unfoldable pub add_targets : Tempo → (c : List Float) → List Float
add_targets t c =
    fold (length t.list)
    (λ k c. plus_at c (item t.list k).word (fmul (fmul (fromℕ t.weight) (fromℤ t.target)) (fromℤ (item t.list k).coef))) c

unfoldable pub linear : Block → List Float
linear b = fold (length b.tempos) (λ j c. add_targets (tempo b j) c) (filled (length b.words) f0)
