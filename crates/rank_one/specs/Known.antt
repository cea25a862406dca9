-- A known value, computed.
use Rattle.std.specs.Prelude.{◌≡◌, refl, [], ◌∷◌}
use Rattle.std.specs.Float.Ieee.{add, sub, mul, div, of_int, of_bits}
use Rattle.folds.specs.Fold.{fold, span}
use Rattle.folds.specs.Part.{two}
use Rattle.root.specs.Root.{root}
use Rattle.arith.specs.Float.{f1, fromℕ}
use Rattle.rank_one.specs.RankOne.{rank_row, rank_rows, new_diagonal, rank_column, rank_one}

-- column 0: r = 5, c = 5/4, t = 3/4, then L = (4 + 6) / c = 8 and v = 10 - 6; column 1: r = 5
of_rank_one : rank_one 2 0 f1 (two (fromℕ 4 ∷ fromℕ 4 ∷ fromℕ 9 ∷ fromℕ 3 ∷ []) (fromℕ 3 ∷ fromℕ 8 ∷ []))
    ≡ two (fromℕ 5 ∷ fromℕ 8 ∷ fromℕ 9 ∷ fromℕ 5 ∷ []) (fromℕ 3 ∷ fromℕ 4 ∷ [])
unfolding rank_one rank_column rank_rows rank_row new_diagonal span fold add sub mul div root of_int of_bits
of_rank_one = refl
