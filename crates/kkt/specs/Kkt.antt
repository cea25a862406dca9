-- qp.rs, `solve_kkt`. K is n by n, E is n by m; c and x have n elements, b and the multipliers m.
use Rattle.std.specs.Prelude.{ℕ, ◌*◌, Bool, List, length, leb, eqb, Float}
use Rattle.folds.specs.Fold.{pick, both}
use Rattle.arith.specs.Float.{f0}
use Rattle.sizes.specs.Sizes.{originals, equalities}
use Rattle.units.specs.Units.{diagonal_scales, column_scales, units_k, units_c, units_e, units_b}
use Rattle.scaled.specs.System.{System, system}
use Rattle.solution.specs.Solution.{Kkt}
use Rattle.noisy_kkt.specs.NoisyKkt.{solve_noisy_kkt}
use Rattle.kkt_original.specs.Original.{original}
use Rattle.outputs.specs.Kkt.{KktAnswer, wrong_shape, engine, Written}

-- ---- `solve_kkt`
unfoldable pub solve_units : System → Kkt
solve_units (system n m k c e b) =
    let scales = diagonal_scales n k in
    let columns = column_scales n m e in
    original n m e b scales columns
    (solve_noisy_kkt (system n m (units_k n k scales) (units_c n c scales) (units_e n m e scales columns) (units_b m b columns)) f0)

-- document 01, 'Engine sizes', and each slice as long as its counts give
unfoldable pub shaped : (n m k c e b x multipliers : ℕ) → Bool
shaped n m k c e b x multipliers =
    both (leb n originals)
    (both (leb m equalities)
    (both (eqb k (n * n))
    (both (eqb c n)
    (both (eqb e (n * m))
    (both (eqb b m)
    (both (eqb x n)
    (eqb multipliers m)))))))

-- the call's answer, with the lengths of the slices for x and the multipliers
unfoldable pub solve_kkt : System → (x_length multipliers_length : ℕ) → KktAnswer
solve_kkt (system n m k c e b) x multipliers =
    pick (shaped n m (length k) (length c) (length e) (length b) x multipliers) (engine (solve_units (system n m k c e b))) wrong_shape

-- the contract of the call
abbrev pub Answered : System → (r : ℕ) (x x' multipliers multipliers' : List Float) → Type 0
Answered s r x x' multipliers multipliers' = Written (solve_kkt s (length x) (length multipliers)) r x x' multipliers multipliers'
