-- A block, as its file has it. Document 01, "The block file". A number that its range keeps from being negative is an ℕ.
use Rattle.std.specs.Prelude.{List, [], ℕ, get_or, ℤ, pos}

-- "1 word: lower, upper, key time, start, slope"
pub record Word : Type 0 where
  pub lower : ℕ
  pub upper : ℕ
  pub key : ℕ
  pub start : ℕ
  pub slope : ℕ

-- a pair of a list: "word number, coefficient"
pub record Item : Type 0 where
  pub word : ℕ
  pub coef : ℤ

-- "2 tempo: weight, target, list"
pub record Tempo : Type 0 where
  pub weight : ℕ
  pub target : ℤ
  pub list : List Item

-- "3 anchor: value, list"
pub record Anchor : Type 0 where
  pub value : ℤ
  pub list : List Item

-- "4 span: lower, upper, list"
pub record Span : Type 0 where
  pub lower : ℤ
  pub upper : ℤ
  pub list : List Item

pub record Block : Type 0 where
  pub words : List Word
  pub tempos : List Tempo
  pub anchors : List Anchor
  pub spans : List Span
  pub cap : ℕ

-- ---- the fields by their numbers, from 0
abbrev pub word : Block → (i : ℕ) → Word
word b i = get_or b.words i (record { lower = 0; upper = 0; key = 0; start = 0; slope = 0 })

abbrev pub tempo : Block → (j : ℕ) → Tempo
tempo b j = get_or b.tempos j (record { weight = 0; target = pos 0; list = [] })

abbrev pub anchor : Block → (k : ℕ) → Anchor
anchor b k = get_or b.anchors k (record { value = pos 0; list = [] })

abbrev pub span : Block → (k : ℕ) → Span
span b k = get_or b.spans k (record { lower = pos 0; upper = pos 0; list = [] })

abbrev pub item : (list : List Item) (k : ℕ) → Item
item l k = get_or l k (record { word = 0; coef = pos 0 })
