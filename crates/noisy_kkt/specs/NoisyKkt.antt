-- qp.rs, `solve_noisy_kkt`. K is n by n, E is n by m; c has n elements, b m.
use Rattle.std.specs.Prelude.{ℕ, ◌*◌, Bool, Option, Some, None, List, Float}
use Rattle.folds.specs.Fold.{pick, both}
use Rattle.arith.specs.Float.{fdiv}
use Rattle.reductions.specs.Reductions.{all_finite}
use Rattle.vector.specs.Vector.{div, divided}
use Rattle.matrix.specs.Matrix.{columns_divided}
use Rattle.scaled.specs.System.{System, system}
use Rattle.scaled.specs.Scaled.{k_scale, column_scales}
use Rattle.solution.specs.Solution.{Kkt, non_finite, singular, rescaled}
use Rattle.scaled_kkt.specs.ScaledKkt.{solve_scaled}

-- with K over its scale and each column of E over its own
unfoldable pub solve_by : System → (noise scale : Float) → Kkt
solve_by (system n m k c e b) noise scale =
    let columns = column_scales n m e in
    rescaled m scale columns
    (solve_scaled (system n m (divided (n * n) k scale) (divided n c scale) (columns_divided n m e columns) (div m b columns)) (fdiv noise scale))

-- `Scaled::new(k, e)?`
unfoldable pub with_scale : System → (noise : Float) → Option Float → Kkt
with_scale s noise (Some scale) = solve_by s noise scale
with_scale s noise None = singular

-- `k.iter().chain(c.iter())`, each finite
unfoldable pub finite : (n : ℕ) (k c : List Float) → Bool
finite n k c = both (all_finite (n * n) k) (all_finite n c)

unfoldable pub solve_noisy_kkt : System → (noise : Float) → Kkt
solve_noisy_kkt (system n m k c e b) noise = pick (finite n k c) (with_scale (system n m k c e b) noise (k_scale n k)) non_finite
