-- Known values, computed.
use Rattle.std.specs.Prelude.{◌≡◌, refl, [], ◌∷◌}
use Rattle.std.specs.Float.Ieee.{neg, add, sub, mul, div, of_int, of_bits}
use Rattle.folds.specs.Fold.{fold, span, pick, tab, tab_m, over}
use Rattle.root.specs.Root.{root}
use Rattle.arith.specs.Float.{f1, fromℕ}
use Rattle.reductions.specs.Reductions.{sum_squares}
use Rattle.vector.specs.Vector.{copy}
use Rattle.triangular.specs.Triangular.{forward, unknown, known}
use Rattle.rank_one.specs.RankOne.{rank_row, rank_rows, new_diagonal, rank_column, rank_one}
use Rattle.update.specs.Update.{staying, closed_entry, closed, removed_entry, removed, leave, remove_column}
use Rattle.update.specs.Update.{join_diagonal, join_below, joining, standing, joined_entry, joined, join, insert_column}

-- without its first variable (1 0; 4 3) is root(9 + 16); the other entries keep their values
of-remove : remove_column 2 0 (f1 ∷ fromℕ 4 ∷ fromℕ 9 ∷ fromℕ 3 ∷ []) ≡ fromℕ 5 ∷ fromℕ 4 ∷ fromℕ 9 ∷ fromℕ 3 ∷ []
unfolding remove_column leave removed removed_entry closed closed_entry staying rank_one rank_column rank_rows rank_row new_diagonal span fold pick tab tab_m
    over add sub mul div root of_int of_bits
of-remove = refl

-- before 25 = 5 5: the diagonal is root 9, below it 9 / 3, and 5 becomes root(25 - 9)
of-insert-first : insert_column 1 0 (fromℕ 9 ∷ fromℕ 9 ∷ []) (fromℕ 5 ∷ fromℕ 7 ∷ fromℕ 7 ∷ fromℕ 7 ∷ []) ≡ fromℕ 3 ∷ fromℕ 3 ∷ fromℕ 3 ∷ fromℕ 4 ∷ []
unfolding insert_column join joining join_diagonal join_below joined joined_entry standing rank_one rank_column rank_rows rank_row new_diagonal forward unknown
    known sum_squares copy span fold pick tab tab_m over add sub mul div neg root of_int of_bits
of-insert-first = refl

-- after 4 = 2 2: the new row is 4 / 2, its diagonal root(13 - 4)
of-insert-last : insert_column 1 1 (fromℕ 4 ∷ fromℕ 13 ∷ []) (fromℕ 2 ∷ fromℕ 7 ∷ fromℕ 7 ∷ fromℕ 7 ∷ []) ≡ fromℕ 2 ∷ fromℕ 2 ∷ fromℕ 2 ∷ fromℕ 3 ∷ []
unfolding insert_column join joining join_diagonal join_below joined joined_entry standing rank_one rank_column rank_rows rank_row new_diagonal forward unknown
    known sum_squares copy span fold pick tab tab_m over add sub mul div neg root of_int of_bits
of-insert-last = refl
