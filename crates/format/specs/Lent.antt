-- What a block and its lists lend as slices: as many entries as are counted, each the array's.
use Rattle.std.specs.Prelude.{◌≡◌, List, ℕ, ◌≤◌, ◌<◌, length, take, get_or}
use Rattle.std.proofs.Common.{arith, length-take-le}
use Rattle.std.proofs.lemmas.List.{get_or-take}
use Rattle.format.specs.Structs.{Filled, Sound}
use Rattle.format.specs.declared.Word.{Word}
use Rattle.format.specs.declared.Pair.{Pair}
use Rattle.format.specs.declared.Pairs.{Pairs}
use Rattle.format.specs.declared.Tempo.{Tempo}
use Rattle.format.specs.declared.Anchor.{Anchor}
use Rattle.format.specs.declared.Span.{Span}
use Rattle.format.specs.declared.Block.{Block}

pub record Lent {A : Type 0} (array : List A) (count : ℕ) (lent : List A) : Type 0 where
  pub long : length lent ≡ count
  pub within : {i : ℕ} → i < length lent → i < count
  pub at : {i : ℕ} (default : A) → i < length lent → get_or lent i default ≡ get_or array i default

first : {A : Type 0} (array : List A) (n : ℕ) {lent : List A} → lent ≡ take n array → n ≤ length array → Lent array n lent
first array n e h =
    rw e (
    let l = length-take-le n array h in
    record { long = l; within = λ {i} k. omega (arith, l, k); at = λ {i} d k. get_or-take n array i d (omega (arith, l, k)) }
    )

pub lent-pairs : {l : Pairs} → Filled l → {ps : List Pair} → ps ≡ take l.count l.pair → Lent l.pair l.count ps
lent-pairs {l} F e = first l.pair l.count e (omega (arith, F.count, F.pair))

module _ {b : Block} (S : Sound b) where
  pub lent-words : {ws : List Word} → ws ≡ take b.words b.word → Lent b.word b.words ws
  lent-words e = first b.word b.words e (omega (arith, S.words, S.word))

  pub lent-tempos : {ts : List Tempo} → ts ≡ take b.tempos b.tempo → Lent b.tempo b.tempos ts
  lent-tempos e = first b.tempo b.tempos e (omega (arith, S.tempos, S.tempo))

  pub lent-anchors : {xs : List Anchor} → xs ≡ take b.anchors b.anchor → Lent b.anchor b.anchors xs
  lent-anchors e = first b.anchor b.anchors e (omega (arith, S.anchors, S.anchor))

  pub lent-spans : {ss : List Span} → ss ≡ take b.spans b.span → Lent b.span b.spans ss
  lent-spans e = first b.span b.spans e (omega (arith, S.spans, S.span))
