use mathlib.Core.Path.{◌≡◌, sym, ◌∙◌, ap}
use Prim.Native.Nat.{ℕ, ◌<◌}
use native.Mathlib.Omega.{arith}
use borrow.Author.Rules.{rules}
use lib.IntN.{ℤ, pos}
use lib.ListN.{length, get_or}
use mir.Syntax.{w32, w64}
use mir.Val.{of_z, to_z, SFits}
use mir.Facts.{to_z-of_z}
use Rattle.std.proofs.lemmas.List.{length_push}
use Rattle.std.proofs.lemmas.Slice.Zip.{zip_turn, zip_end}
use Rattle.ints.specs.Sum.{Σ}
use Rattle.ints.specs.Bound.{◌≼◌, sfits}
use Rattle.ints.specs.Held.{Held, called, read, Σ-none, Σ-fits, Σ_turn, Σ_end}
use Rattle.block.specs.Block.{word}
use Rattle.block.specs.Plan.{time, bend}
use Rattle.block.specs.Laws.{bends-is}
use Rattle.block.specs.Fits.{bend-b, bends-b}
use Rattle.format.specs.Structs.{block_of, word_of, word_at}
use Rattle.format.specs.Entries.{words-length, in_words, word_in}
use Rattle.format.specs.Lent.{Lent, lent-words}
use Rattle.format.specs.declared.Word.{Word}
use Rattle.exact.specs.Planned.{plan-timed, time_in, timed-at, of-word}
use Rattle.exact.proofs.bends.Goals as goal
use Rattle.exact.proofs.bends.Goals.{In-Some, In-None, After-from, After-bend-sum, After-words}

lent : (c : After-words) → Lent c.args.b.word c.args.b.words c.words.result.now
lent c = lent-words c.requires.sound c.words.ensures

-- ---- a turn: the word and its time
module _ (c : In-Some) where
  abbrev i : ℕ
  i = length c.loop-w.yielded

  turn : (i < length c.words.result.now) × (i < length c.args.times.now) × ((d : Word) → c.in-Some.w.now ≡ get_or c.words.result.now i d) × ((d : ℤ) → c.in-Some.t.now ≡ get_or c.args.times.now i d)
  turn = zip_turn _ _ _ _ _ c.next.new.self _ (search rules) (search rules) c.loop-w.yielded_by _ c.in-Some.is c.next.ensures.steps

  here : Lent c.args.b.word c.args.b.words c.words.result.now
  here = lent (goal.at.In-Some c).After-words

  h : i < c.args.b.words
  h = here.within turn.0

  is : c.in-Some.w.now ≡ word_at c.args.b i
  is = turn.2 _ ∙ here.at _ turn.0

at-time : (c : After-from) → c.from.result ≡ time c.args.times.now (length c.loop-w.yielded)
at-time c =
    let s = (goal.at.After-from c).In-Some in
    let f : SFits w32 (get_or c.args.times.now (i s) (pos 0)) = sfits (time_in c.requires (h s)) tt in
    c.from.ensures ∙ ap (λ z. to_z w32 (of_z w32 z)) ((turn s).3 (pos 0)) ∙ to_z-of_z f

module _ (c : After-bend-sum) where
  abbrev s : In-Some
  s = (goal.at.After-bend-sum c).In-Some

  given : c.bend-sum.result ≡ bend (word_of (word_at c.args.b (i s))) (to_z w64 (of_z w64 c.from.result))
  given = c.bend-sum.ensures ∙ ap (λ w. bend (word_of w) (to_z w64 (of_z w64 c.from.result))) (is s)

  term : Held w64 (of_z w64 c.bend-sum.result)
      (bend (word (block_of c.args.b) (i s)) (time c.args.times.now (i s))) 34359214080
  term =
      called w64 (of-word c.requires (h s) (at-time (goal.at.After-bend-sum c).After-from) bend given)
      (bend-b (c.requires.ranged.each_word _ (in_words c.requires.sound (h s))) (time_in c.requires (h s))) tt

  so-far-b : Σ (i s) (λ i. bend (word (block_of c.args.b) i) (time c.args.times.now i)) ≼ 1099494850560
  so-far-b = bends-b c.requires.ranged (plan-timed c.requires) (i s) (omega (arith, h s, words-length c.requires.sound))

pub loop-w-init : goal.loop-w-init
loop-w-init c = (Σ-none _).total

pub bend-sum-requires : goal.bend-sum-requires
bend-sum-requires c =
    let s = (goal.at.bend-sum-requires c).In-Some in
    record {
      ranged_word = rw (is s) (word_in c.requires.sound c.requires.ranged (h s));
      t = read (timed-at c.requires (h s) (at-time (goal.at.bend-sum-requires c).After-from));
    }

pub overflow_add-sum : goal.overflow_add-sum
overflow_add-sum c =
    let t = (goal.at.overflow_add-sum c).After-bend-sum in
    Σ-fits {s = c.loop-w.sum-bits} (record { total = c.loop-w.invariant }) (so-far-b t) (term t) tt

pub loop-w-preserved : goal.loop-w-preserved
loop-w-preserved c =
    let t = (goal.at.loop-w-preserved c).After-bend-sum in
    rw (length_push c.loop-w.yielded (c.in-Some.w, c.in-Some.t)) (Σ_turn {s = c.loop-w.sum-bits} (record { total = c.loop-w.invariant }) (so-far-b t) (term t) tt).total

pub returns : goal.returns
returns c =
    let n = words-length c.requires.sound in
    let l = (lent (goal.at.returns c).After-words).long in
    let e = zip_end c.words.result.now c.args.times.now _ _ _ c.next.new.self _ (search rules) (search rules) c.loop-w.yielded_by c.in-None.is c.next.ensures.steps in
    Σ_end {s = c.loop-w.sum-bits} (record { total = c.loop-w.invariant }) _ (omega (arith, e, l, c.requires.each)) (omega (arith, e, l, c.requires.each)) ∙ sym (bends-is _ _)
