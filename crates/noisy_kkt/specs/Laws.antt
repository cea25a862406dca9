-- Laws of the definitions: what a function's calls leave, put together.
use Rattle.std.specs.Prelude.{◌≡◌, List, ℕ, ◌*◌, Float}
use Rattle.std.proofs.Common.{◌∙◌}
use Rattle.arith.specs.Float.{fdiv}
use Rattle.vector.specs.Vector.{div, divided}
use Rattle.matrix.specs.Matrix.{columns_divided}
use Rattle.scaled.specs.System.{system}
use Rattle.scaled.specs.Scaled.{column_scales}
use Rattle.solution.specs.Solution.{Kkt, rescaled}
use Rattle.scaled_kkt.specs.ScaledKkt.{solve_scaled}
use Rattle.noisy_kkt.specs.NoisyKkt.{solve_by}

pub by_from : {r s : Kkt} {columns ks cs es bs : List Float} {ns : Float} (n m : ℕ) (k c e b : List Float) (noise scale : Float) →
    columns ≡ column_scales n m e → ks ≡ divided (n * n) k scale → cs ≡ divided n c scale →
    es ≡ columns_divided n m e columns → bs ≡ div m b columns → s ≡ solve_scaled (system n m ks cs es bs) ns → ns ≡ fdiv noise scale →
    r ≡ rescaled m scale columns s → r ≡ solve_by (system n m k c e b) noise scale
unfolding solve_by
by_from n m k c e b noise scale f g h i j s t r = r ∙ rw (s, g, h, i, j, f, t)
