-- What the program `places` prints, as bytes. Document 01, "Known blocks": "Lines: word number, key time, written time; exact moves and cap; gap;
-- passes. Refused, it prints one line: `refused`, a space and the number." Each line ends in a newline.
use Rattle.std.specs.Prelude.{List, [], ◌∷◌, ◌++◌, ℕ, zero, suc, ◌+◌, ◌/◌, ◌%◌, ltb, length, ℤ, pos, negsuc}
use Rattle.folds.specs.Fold.{pick}
use Rattle.block.specs.Block.{Block, word}
use Rattle.block.specs.Plan.{time, moves}

-- ---- a number in decimal digits, the most significant first and no zero in front
-- `0` to `9`
abbrev pub digit : ℕ → ℕ
digit d = 48 + d

-- the digits of n, of which there are at most k
unfoldable pub digits : (k n : ℕ) → List ℕ
digits zero n = []
digits (suc k) n = pick (ltb n 10) (digit n ∷ []) (digits k (n / 10) ++ (digit (n % 10) ∷ []))

-- n has at most n + 1 digits
unfoldable pub decimal : ℕ → List ℕ
decimal n = digits (suc n) n

-- with `-` in front where it is below 0
unfoldable pub integer : ℤ → List ℕ
integer (pos n) = decimal n
integer (negsuc n) = 45 ∷ decimal (suc n)

-- ---- the words of the lines, in ASCII
unfoldable pub space : List ℕ
space = 32 ∷ []

unfoldable pub newline : List ℕ
newline = 10 ∷ []

-- `word key audio`
unfoldable pub heading : List ℕ
heading = 119 ∷ 111 ∷ 114 ∷ 100 ∷ 32 ∷ 107 ∷ 101 ∷ 121 ∷ 32 ∷ 97 ∷ 117 ∷ 100 ∷ 105 ∷ 111 ∷ 10 ∷ []

-- `moves `, ` cap `, `gap `, `rounds `, `refused `
unfoldable pub moves_word : List ℕ
moves_word = 109 ∷ 111 ∷ 118 ∷ 101 ∷ 115 ∷ 32 ∷ []

unfoldable pub cap_word : List ℕ
cap_word = 32 ∷ 99 ∷ 97 ∷ 112 ∷ 32 ∷ []

unfoldable pub gap_word : List ℕ
gap_word = 103 ∷ 97 ∷ 112 ∷ 32 ∷ []

unfoldable pub rounds_word : List ℕ
rounds_word = 114 ∷ 111 ∷ 117 ∷ 110 ∷ 100 ∷ 115 ∷ 32 ∷ []

unfoldable pub refused_word : List ℕ
refused_word = 114 ∷ 101 ∷ 102 ∷ 117 ∷ 115 ∷ 101 ∷ 100 ∷ 32 ∷ []

-- ---- the lines
-- one piece after the other
unfoldable pub joined : List (List ℕ) → List ℕ
joined [] = []
joined (s ∷ ss) = s ++ joined ss

-- "word number, key time, written time"
unfoldable pub word_line : (i key : ℕ) (time : ℤ) → List ℕ
word_line i key t = joined (decimal i ∷ space ∷ decimal key ∷ space ∷ integer t ∷ newline ∷ [])

-- of the first n words
unfoldable pub word_lines : (n : ℕ) → Block → (times : List ℤ) → List ℕ
word_lines zero b x = []
word_lines (suc n) b x = word_lines n b x ++ word_line n (word b n).key (time x n)

-- "exact moves and cap"
unfoldable pub moves_line : (moves : ℤ) (cap : ℕ) → List ℕ
moves_line m cap = joined (moves_word ∷ integer m ∷ cap_word ∷ decimal cap ∷ newline ∷ [])

-- "gap"
unfoldable pub gap_line : ℤ → List ℕ
gap_line g = joined (gap_word ∷ integer g ∷ newline ∷ [])

-- a word and a number
unfoldable pub count_line : (name : List ℕ) (n : ℕ) → List ℕ
count_line name n = joined (name ∷ decimal n ∷ newline ∷ [])

-- ---- the listing of a plan with its gap and passes, and of a refusal
unfoldable pub plan : Block → (times : List ℤ) (gap : ℤ) (passes : ℕ) → List ℕ
plan b x gap passes =
    joined
    (heading
    ∷ word_lines (length b.words) b x
    ∷ moves_line (moves b x) b.cap
    ∷ gap_line gap
    ∷ count_line rounds_word passes
    ∷ [])

unfoldable pub refused : ℕ → List ℕ
refused number = count_line refused_word number
