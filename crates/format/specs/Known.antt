-- The definition, computed: document 01's known block, P5 and P6, each refusal, and which of two faults is given.
use Rattle.std.specs.Prelude.{◌≡◌, refl, List, [], ◌∷◌, ◌++◌, map, ℕ, zero, suc, get_or, pos}
use Rattle.std.proofs.Common.{ap}
use Rattle.folds.specs.Fold.{pick, both}
use Rattle.block.specs.Block.{Block}
use Rattle.format.specs.Read.{Outcome, block, refused, read, accepted, need, u16_at, u32_at, signed, i8_at, i32_at, size_up_to, is_zero}
use Rattle.format.specs.Read.{rises, pair_verdict, first_of, list_verdict, word_verdict, tempo_verdict, anchor_verdict, span_verdict, cap_verdict}
use Rattle.format.specs.Read.{pairs_in, count, has_room, head_verdict, body_verdict, field_verdict, with_body, end_verdict, counts, fields}

-- ---- fields
-- a word from `lower` to the number whose first three bytes are a, b and c, of key 40 and start 0, with a slope of `slope` times 65,536
abbrev pub word_bytes : ℕ → ℕ → ℕ → ℕ → ℕ → List ℕ
word_bytes lower a b c slope = 1 ∷ 20 ∷ 0 ∷ lower ∷ 0 ∷ 0 ∷ 0 ∷ a ∷ b ∷ c ∷ 0 ∷ 40 ∷ 0 ∷ 0 ∷ 0 ∷ 0 ∷ 0 ∷ 0 ∷ 0 ∷ 0 ∷ 0 ∷ slope ∷ 0 ∷ []

-- "One word 0..100, key 40, start 0, slope 0"
abbrev pub known_word : List ℕ
known_word = word_bytes 0 100 0 0 0

-- "tempo weight 1, target 70, coefficient 1", with its count byte, word number and coefficient
abbrev pub tempo_bytes : ℕ → ℕ → ℕ → List ℕ
tempo_bytes n w k = 2 ∷ 9 ∷ 0 ∷ 1 ∷ 0 ∷ 70 ∷ 0 ∷ 0 ∷ 0 ∷ n ∷ w ∷ k ∷ []

abbrev pub known_tempo : List ℕ
known_tempo = tempo_bytes 1 0 1

-- a span of coefficient 1 for a word
abbrev pub span_bytes : ℕ → ℕ → ℕ → List ℕ
span_bytes lower upper w = 4 ∷ 11 ∷ 0 ∷ lower ∷ 0 ∷ 0 ∷ 0 ∷ upper ∷ 0 ∷ 0 ∷ 0 ∷ 1 ∷ w ∷ 1 ∷ []

-- "cap 10"
abbrev pub known_cap : List ℕ
known_cap = 5 ∷ 4 ∷ 0 ∷ 10 ∷ 0 ∷ 0 ∷ 0 ∷ []

abbrev pub repeated : ℕ → List ℕ → List ℕ
repeated zero s = []
repeated (suc n) s = s ++ repeated n s

-- ---- blocks
-- document 01's known block, and its file, blocks/known.block
abbrev pub known : Block
known =
    record {
      words = record { lower = 0; upper = 100; key = 40; start = 0; slope = 0 } ∷ [];
      tempos = record { weight = 1; target = pos 70; list = record { word = 0; coef = pos 1 } ∷ [] } ∷ [];
      anchors = [];
      spans = [];
      cap = 10;
    }

abbrev pub known_file : List ℕ
known_file = known_word ++ known_tempo ++ known_cap

-- one word of the longest window
abbrev pub longest : Block
longest =
    record {
      words = record { lower = 0; upper = 262144; key = 40; start = 0; slope = 0 } ∷ [];
      tempos = [];
      anchors = [];
      spans = [];
      cap = 10;
    }

-- ---- files, and what they are read as
abbrev cases : List (List ℕ × Outcome)
cases =
    -- "Known blocks"
    (known_file, block known)
    -- (P5) "An upper of 262,144 is accepted, 262,145 gives 5." (P6) "33rd word gives 4."
    ∷ (word_bytes 0 0 0 4 0 ++ known_cap, block longest)
    ∷ (word_bytes 0 1 0 4 0 ++ known_cap, refused 5)
    ∷ (repeated 33 known_word ++ known_cap, refused 4)
    -- 1: "a header or body cut short, or a length its tag doesn't have"
    ∷ (1 ∷ 20 ∷ [], refused 1)
    ∷ (5 ∷ 4 ∷ 0 ∷ 10 ∷ [], refused 1)
    ∷ (known_word ++ (2 ∷ 10 ∷ 0 ∷ []) ++ known_cap, refused 1)
    -- 2: "not 1 to 5"
    ∷ (6 ∷ 0 ∷ 0 ∷ [], refused 2)
    ∷ (0 ∷ 0 ∷ 0 ∷ [], refused 2)
    -- 3: "a falling tag, a second cap, no word, no cap"
    ∷ (known_word ++ known_tempo ++ known_word, refused 3)
    ∷ (known_word ++ known_cap ++ known_cap, refused 3)
    ∷ (known_cap, refused 3)
    ∷ (known_word, refused 3)
    ∷ ([], refused 3)
    -- 5: "a number outside its range"
    ∷ (known_word ++ tempo_bytes 1 0 0 ++ known_cap, refused 5)
    ∷ (known_word ++ tempo_bytes 1 0 247 ++ known_cap, refused 5)
    -- 6: "lower above upper"
    ∷ (word_bytes 101 100 0 0 0 ++ known_cap, refused 6)
    ∷ (known_word ++ span_bytes 2 1 0 ++ known_cap, refused 6)
    -- 7: "count, order or word number"
    ∷ (known_word ++ tempo_bytes 2 0 1 ++ known_cap, refused 7)
    ∷ (known_word ++ known_word ++ (2 ∷ 11 ∷ 0 ∷ 1 ∷ 0 ∷ 70 ∷ 0 ∷ 0 ∷ 0 ∷ 2 ∷ 1 ∷ 1 ∷ 1 ∷ 1 ∷ []) ++ known_cap, refused 7)
    ∷ (known_word ++ tempo_bytes 1 1 1 ++ known_cap, refused 7)
    -- of two faults: a strange tag in a cut header; a second cap of a wrong length; a number above its range in a crossed window;
    -- a bad list of a crossed span
    ∷ (6 ∷ [], refused 1)
    ∷ (known_word ++ known_cap ++ (5 ∷ 3 ∷ 0 ∷ []), refused 3)
    ∷ (word_bytes 101 100 0 0 1 ++ known_cap, refused 5)
    ∷ (known_word ++ span_bytes 2 1 1 ++ known_cap, refused 7)
    -- what follows a good block still decides
    ∷ (known_word ++ known_cap ++ (0 ∷ []), refused 1)
    ∷ []

abbrev found : List ℕ × Outcome → Outcome
found c = read c.0

abbrev said : List ℕ × Outcome → Outcome
said c = c.1

cases_hold : map found cases ≡ map said cases
unfolding pick both read accepted need u16_at u32_at signed i8_at i32_at size_up_to is_zero
    rises pair_verdict first_of list_verdict word_verdict tempo_verdict anchor_verdict span_verdict cap_verdict
    pairs_in count has_room head_verdict body_verdict field_verdict with_body end_verdict counts fields
cases_hold = refl

-- the P cases by their names
pub known-read : read known_file ≡ block known
known-read = ap (λ l. get_or l 0 (refused 0)) cases_hold

pub P5-accepted : read (word_bytes 0 0 0 4 0 ++ known_cap) ≡ block longest
P5-accepted = ap (λ l. get_or l 1 (refused 0)) cases_hold

pub P5-refused : read (word_bytes 0 1 0 4 0 ++ known_cap) ≡ refused 5
P5-refused = ap (λ l. get_or l 2 (refused 0)) cases_hold

pub P6-refused : read (repeated 33 known_word ++ known_cap) ≡ refused 4
P6-refused = ap (λ l. get_or l 3 (refused 0)) cases_hold
