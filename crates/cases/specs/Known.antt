-- Document 01, "Known blocks": the cases marked P, as a table, by one theorem.
use Rattle.std.specs.Prelude.{◌≡◌, Bool, true, false, List, [], ◌∷◌, ◌++◌, map, ℕ, length, get_or, ℤ, pos, negsuc, Float}
use Rattle.std.proofs.Common.{ap}
use Rattle.std.specs.Float.{nan}
use Rattle.std.specs.Float.Ieee.{neg}
use Rattle.folds.specs.Fold.{fold, all, both, pick}
use Rattle.ints.specs.Diff.{minℤ, maxℤ}
use Rattle.ints.specs.Sum.{Σ}
use Rattle.block.specs.Block.{Block, Word, Item}
use Rattle.block.specs.Plan.{sum_of, move, moves, bend, square_of, squares, bends, cost}
use Rattle.block.specs.Keeps.{Keeps, window_kept, windows_kept}
use Rattle.block.specs.Gap.{Prices, coef_of, slope_of, g, anchor_part, span_part, h, line, candidates, least_from, least}
use Rattle.block.specs.Gap.{word_gap, word_gap_of, word_gaps, values, ends, gap}
use Rattle.format.specs.Read.{Outcome, read}
use Rattle.format.specs.Known.{known, known_file, longest, word_bytes, known_word, known_cap, repeated}
use Rattle.format.specs.Known.{known-read, P5-accepted, P5-refused, P6-refused}
use Rattle.arith.specs.Float.{f0, f1, f2, sqrt}
use Rattle.arith.specs.Known.{f4, P7}
use Rattle.variable_set.specs.Joining.{joining, afresh}
use Rattle.variable_set.specs.Known.{held_five, listed_six, listed_five, P8}
use Rattle.cases.specs.Kept.{from_to, keeps, keeps_true}

-- what a case says of: a whole number, a test, how a file is read, a float
pub data Value : Type 0 where
  integer : ℤ → Value
  truth : Bool → Value
  file : Outcome → Value
  float : Float → Value

-- a case by its number: what is found, and what the document says
pub record Case : Type 0 where
  pub label : ℕ
  pub found : Value
  pub said : Value

abbrev pub case : ℕ → Value → Value → Case
case n f s = record { label = n; found = f; said = s }

-- "that block": the known one, with another cap, and an anchor of coefficient 1
abbrev pub one : List Item
one = record { word = 0; coef = pos 1 } ∷ []

abbrev pub anchored : List Word → ℕ → ℕ → Block
anchored w c v = record { words = w; tempos = known.tempos; anchors = record { value = pos v; list = one } ∷ []; spans = []; cap = c }

-- "Window 5..5, key 5"
abbrev pub five : Word
five = record { lower = 5; upper = 5; key = 5; start = 5; slope = 0 }

abbrev pub plan : ℕ → List ℤ
plan t = pos t ∷ []

abbrev pub prices : List ℤ → ℕ → Prices
prices a c = record { anchors = a; spans = []; cap = c }

abbrev pub table : List Case
table =
    -- (P1) "that block": what its file is read as
    case 1 (file (read known_file)) (file (Outcome.block known))
    -- "that block with plan 50 and cap price 20: cost 400, moves 10, gap 0."
    ∷ case 1 (integer (cost known (plan 50))) (integer (pos 400))
    ∷ case 1 (integer (moves known (plan 50))) (integer (pos 10))
    ∷ case 1 (integer (gap known (plan 50) (prices [] 20))) (integer (pos 0))
    -- (P2) "Same plan, prices 0: gap 2000."
    ∷ case 2 (integer (gap known (plan 50) (prices [] 0))) (integer (pos 2000))
    -- (P3) "That block with cap 100 and an anchor 45 of coefficient 1, plan 50, anchor price 20, cap price 0: gap −200."
    ∷ case 3 (integer (gap (anchored known.words 100 45) (plan 50) (prices (pos 20 ∷ []) 0))) (integer (negsuc 199))
    -- (P4) "Window 5..5, key 5, anchor 5, prices 0: plan 5 keeps it, gap 0."
    ∷ case 4 (truth (keeps (anchored (five ∷ []) 10 5) (plan 5))) (truth true)
    ∷ case 4 (integer (gap (anchored (five ∷ []) 10 5) (plan 5) (prices (pos 0 ∷ []) 0))) (integer (pos 0))
    -- (P5) "An upper of 262,144 is accepted, 262,145 gives 5."
    ∷ case 5 (file (read (word_bytes 0 0 0 4 0 ++ known_cap))) (file (Outcome.block longest))
    ∷ case 5 (file (read (word_bytes 0 1 0 4 0 ++ known_cap))) (file (Outcome.refused 5))
    -- (P6) "33rd word gives 4."
    ∷ case 6 (file (read (repeated 33 known_word ++ known_cap))) (file (Outcome.refused 4))
    -- (P7) "Root of 4 is 2; of −0, −0; of −1, NaN."
    ∷ case 7 (float (sqrt f4)) (float f2)
    ∷ case 7 (float (sqrt (neg f0))) (float (neg f0))
    ∷ case 7 (float (sqrt (neg f1))) (float nan)
    -- (P8) "Six listed, one joining: update; five listed: afresh."
    ∷ case 8 (truth (afresh (joining held_five listed_six) (length listed_six))) (truth false)
    ∷ case 8 (truth (afresh (joining held_five listed_five) (length listed_five))) (truth true)
    ∷ []
