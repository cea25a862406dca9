-- How the code's structs hold a block: `block_of` is document 01's block that a `Block` of the code stands for, `read_of` what the reader says.
use Rattle.std.specs.Prelude.{◌≡◌, refl, List, [], ◌∷◌, ◌++◌, map, ℕ, zero, suc, ◌+◌, ◌≤◌, ◌<◌, length, take, set, get_or, pos, Result, Ok, Err}
use Rattle.std.proofs.Common.{ap, add-one, le_of_suc-le-suc, not-suc-le-zero}
use Rattle.block.specs.Block as Spec
use Rattle.block.specs.Ranges.{max_words, max_tempos, max_anchors, max_spans, max_pairs}
use Rattle.format.specs.Read.{Outcome, block, refused, number_of}
use Rattle.format.specs.declared.Word.{Word}
use Rattle.format.specs.declared.Pair.{Pair}
use Rattle.format.specs.declared.Pairs.{Pairs}
use Rattle.format.specs.declared.Tempo.{Tempo}
use Rattle.format.specs.declared.Anchor.{Anchor}
use Rattle.format.specs.declared.Span.{Span}
use Rattle.format.specs.declared.Block.{Block}
use Rattle.format.specs.declared.Counts.{Counts}
use Rattle.format.specs.declared.Refusal.{Refusal}

abbrev pub word_of : Word → Spec.Word
word_of w = record { lower = w.lower; upper = w.upper; key = w.key; start = w.start; slope = w.slope }

abbrev pub pair_of : Pair → Spec.Item
pair_of p = record { word = p.word; coef = p.coef }

abbrev pub list_of : Pairs → List Spec.Item
list_of l = map pair_of (take l.count l.pair)

abbrev pub tempo_of : Tempo → Spec.Tempo
tempo_of t = record { weight = t.weight; target = t.target; list = list_of t.list }

abbrev pub anchor_of : Anchor → Spec.Anchor
anchor_of a = record { value = a.value; list = list_of a.list }

abbrev pub span_of : Span → Spec.Span
span_of s = record { lower = s.lower; upper = s.upper; list = list_of s.list }

unfoldable pub block_of : Block → Spec.Block
block_of b =
    record {
      words = map word_of (take b.words b.word);
      tempos = map tempo_of (take b.tempos b.tempo);
      anchors = map anchor_of (take b.anchors b.anchor);
      spans = map span_of (take b.spans b.span);
      cap = b.cap;
    }

abbrev pub counts_of : Block → Counts
counts_of b = record { words = b.words; tempos = b.tempos; anchors = b.anchors; spans = b.spans }

abbrev pub read_of : Result Block Refusal → Outcome
read_of (Ok b) = block (block_of b)
read_of (Err r) = refused (number_of r)

-- ---- the arrays: as long as their types have them, and no count above its array's length
pub record Filled (l : Pairs) : Type 0 where
  pub count : l.count ≤ max_pairs
  pub pair : length l.pair ≡ max_pairs

abbrev pub no_pairs : Pairs
no_pairs = record { count = 0; pair = [] }

abbrev pub pair_at : Pairs → (k : ℕ) → Pair
pair_at l k = get_or l.pair k (record { word = 0; coef = pos 0 })

abbrev pub word_at : Block → (i : ℕ) → Word
word_at b i = get_or b.word i (record { lower = 0; upper = 0; key = 0; start = 0; slope = 0 })

abbrev pub tempo_at : Block → (j : ℕ) → Tempo
tempo_at b j = get_or b.tempo j (record { weight = 0; target = pos 0; list = no_pairs })

abbrev pub anchor_at : Block → (k : ℕ) → Anchor
anchor_at b k = get_or b.anchor k (record { value = pos 0; list = no_pairs })

abbrev pub span_at : Block → (k : ℕ) → Span
span_at b k = get_or b.span k (record { lower = pos 0; upper = pos 0; list = no_pairs })

pub record Sound (b : Block) : Type 0 where
  pub words : b.words ≤ max_words
  pub tempos : b.tempos ≤ max_tempos
  pub anchors : b.anchors ≤ max_anchors
  pub spans : b.spans ≤ max_spans
  pub word : length b.word ≡ max_words
  pub tempo : length b.tempo ≡ max_tempos
  pub anchor : length b.anchor ≡ max_anchors
  pub span : length b.span ≡ max_spans
  pub tempo_list : (j : ℕ) → j < b.tempos → Filled (tempo_at b j).list
  pub anchor_list : (k : ℕ) → k < b.anchors → Filled (anchor_at b k).list
  pub span_list : (k : ℕ) → k < b.spans → Filled (span_at b k).list

-- the first n of an array, by their number
module _ {A B : Type 0} (f : A → B) where
  pub count-is : (l : List A) (n : ℕ) → n ≤ length l → length (map f (take n l)) ≡ n
  count-is l zero h = refl
  count-is [] (suc n) h = absurd (not-suc-le-zero h)
  count-is (x ∷ xs) (suc n) h = ap suc (count-is xs n (le_of_suc-le-suc h))

  -- the default of either side is never read
  pub entry-is : (l : List A) (n i : ℕ) (a : A) (b : B) → i < n → n ≤ length l → get_or (map f (take n l)) i b ≡ f (get_or l i a)
  entry-is l zero i a b h k = absurd (not-suc-le-zero h)
  entry-is [] (suc n) i a b h k = absurd (not-suc-le-zero k)
  entry-is (x ∷ xs) (suc n) zero a b h k = refl
  entry-is (x ∷ xs) (suc n) (suc i) a b h k = entry-is xs n i a b (le_of_suc-le-suc h) (le_of_suc-le-suc k)

  -- one more at the end of the first n
  pub one-more : (l : List A) (n : ℕ) (x : A) → n < length l → map f (take (n + 1) (set l n x)) ≡ map f (take n l) ++ (f x ∷ [])
  one-more l n x h = rw (add-one n) (go l n x h)
    where
      go : (l : List A) (n : ℕ) (x : A) → n < length l → map f (take (suc n) (set l n x)) ≡ map f (take n l) ++ (f x ∷ [])
      go [] n x h = absurd (not-suc-le-zero h)
      go (y ∷ ys) zero x h = refl
      go (y ∷ ys) (suc n) x h = ap (λ r. f y ∷ r) (go ys n x (le_of_suc-le-suc h))
