-- The table of known cases (specs/Known.antt) is true.
use Rattle.std.specs.Prelude.{◌≡◌, Bool, true, false, List, [], ◌∷◌, ◌++◌, map, ℕ, length, get_or, ℤ, pos, negsuc, Float}
use Rattle.std.proofs.Common.{ap}
use Rattle.std.specs.Float.{nan}
use Rattle.std.specs.Float.Ieee.{neg}
use Rattle.folds.specs.Fold.{fold, all, both, pick}
use Rattle.ints.specs.Diff.{minℤ, maxℤ}
use Rattle.ints.specs.Sum.{Σ}
use Rattle.block.specs.Block.{Block, Word, Item}
use Rattle.block.specs.Plan.{sum_of, move, moves, bend, square_of, squares, bends, cost}
use Rattle.block.specs.Keeps.{Keeps, window_kept, windows_kept}
use Rattle.block.specs.Gap.{Prices, coef_of, slope_of, g, anchor_part, span_part, h, line, candidates, least_from, least}
use Rattle.block.specs.Gap.{word_gap, word_gap_of, word_gaps, values, ends, gap}
use Rattle.format.specs.Read.{Outcome, read}
use Rattle.format.specs.Known.{known, known_file, longest, word_bytes, known_word, known_cap, repeated}
use Rattle.format.specs.Known.{known-read, P5-accepted, P5-refused, P6-refused}
use Rattle.arith.specs.Float.{f0, f1, f2, sqrt}
use Rattle.arith.specs.Known.{f4, P7}
use Rattle.variable_set.specs.Joining.{joining, afresh}
use Rattle.variable_set.specs.Known.{held_five, listed_six, listed_five, P8}
use Rattle.cases.specs.Kept.{from_to, keeps, keeps_true}
use Rattle.cases.specs.Known.{Value, truth, Case, one, anchored, five, plan, prices, table}

pub P : map (λ c. c.found) table ≡ map (λ c. c.said) table
unfolding fold all both pick Σ minℤ maxℤ sum_of move moves bend square_of squares bends cost window_kept windows_kept
    coef_of slope_of g anchor_part span_part h line candidates least_from least word_gap word_gap_of word_gaps values ends gap from_to keeps
P = rw (known-read, P5-accepted, P5-refused, P6-refused, P7.0, P7.1, P7.2, P8.0, P8.1)

-- (P4) by the definition: the row's test is true, so the plan keeps the block
pub P4-keeps : Keeps (anchored (five ∷ []) 10 5) (plan 5)
P4-keeps =
    let row : truth (keeps (anchored (five ∷ []) 10 5) (plan 5)) ≡ truth true = ap (λ l. get_or l 6 (truth true)) P in
    keeps_true (anchored (five ∷ []) 10 5) (plan 5) (cc)
