use mathlib.Core.Path.{◌≡◌, sym, ◌∙◌, ap}
use Prim.Native.Nat.{ℕ, ◌<◌}
use native.Mathlib.Omega.{arith}
use borrow.Author.Rules.{rules}
use lib.IntN.{ℤ, pos}
use lib.ListN.{length, get_or}
use mir.Syntax.{w32, w64}
use mir.Val.{of_z, to_z, SFits}
use mir.Facts.{to_z-of_z}
use Rattle.std.proofs.lemmas.List.{length_push}
use Rattle.std.proofs.lemmas.Slice.Zip.{zip_turn, zip_end}
use Rattle.ints.specs.Sum.{Σ}
use Rattle.ints.specs.Bound.{◌≼◌, sfits}
use Rattle.ints.specs.Held.{Held, called, read, Σ-none, Σ-fits, Σ_turn, Σ_end}
use Rattle.block.specs.Block.{word}
use Rattle.block.specs.Plan.{time, move}
use Rattle.block.specs.Laws.{moves-is}
use Rattle.block.specs.Fits.{move-b, moves-b}
use Rattle.format.specs.Structs.{block_of, word_of, word_at}
use Rattle.format.specs.Entries.{words-length, in_words, word_in}
use Rattle.format.specs.Lent.{Lent, lent-words}
use Rattle.format.specs.declared.Word.{Word}
use Rattle.exact.specs.Planned.{plan-timed, time_in, timed-at, of-word}
use Rattle.exact.proofs.moves.Goals as goal
use Rattle.exact.proofs.moves.Goals.{In-Some, In-None, After-from, After-move_of-sum, After-words}

lent : (c : After-words) → Lent c.args.b.word c.args.b.words c.words.result.now
lent c = lent-words c.requires.sound c.words.ensures

-- ---- a turn: the word and its time
module _ (c : In-Some) where
  abbrev i : ℕ
  i = length c.loop-w.yielded

  turn : (i < length c.words.result.now) × (i < length c.args.times.now) × ((d : Word) → c.in-Some.w.now ≡ get_or c.words.result.now i d) × ((d : ℤ) → c.in-Some.t.now ≡ get_or c.args.times.now i d)
  turn = zip_turn _ _ _ _ _ c.next.new.self _ (search rules) (search rules) c.loop-w.yielded_by _ c.in-Some.is c.next.ensures.steps

  here : Lent c.args.b.word c.args.b.words c.words.result.now
  here = lent (goal.at.In-Some c).After-words

  h : i < c.args.b.words
  h = here.within turn.0

  is : c.in-Some.w.now ≡ word_at c.args.b i
  is = turn.2 _ ∙ here.at _ turn.0

at-time : (c : After-from) → c.from.result ≡ time c.args.times.now (length c.loop-w.yielded)
at-time c =
    let s = (goal.at.After-from c).In-Some in
    let f : SFits w32 (get_or c.args.times.now (i s) (pos 0)) = sfits (time_in c.requires (h s)) tt in
    c.from.ensures ∙ ap (λ z. to_z w32 (of_z w32 z)) ((turn s).3 (pos 0)) ∙ to_z-of_z f

module _ (c : After-move_of-sum) where
  abbrev s : In-Some
  s = (goal.at.After-move_of-sum c).In-Some

  given : c.move_of-sum.result ≡ move (word_of (word_at c.args.b (i s))) (to_z w64 (of_z w64 c.from.result))
  given = c.move_of-sum.ensures ∙ ap (λ w. move (word_of w) (to_z w64 (of_z w64 c.from.result))) (is s)

  term : Held w64 (of_z w64 c.move_of-sum.result)
      (move (word (block_of c.args.b) (i s)) (time c.args.times.now (i s))) 524288
  term =
      called w64 (of-word c.requires (h s) (at-time (goal.at.After-move_of-sum c).After-from) move given)
      (move-b (c.requires.ranged.each_word _ (in_words c.requires.sound (h s))) (time_in c.requires (h s))) tt

  so-far-b : Σ (i s) (λ i. move (word (block_of c.args.b) i) (time c.args.times.now i)) ≼ 16777216
  so-far-b = moves-b c.requires.ranged (plan-timed c.requires) (i s) (omega (arith, h s, words-length c.requires.sound))

pub loop-w-init : goal.loop-w-init
loop-w-init c = (Σ-none _).total

pub move_of-sum-requires : goal.move_of-sum-requires
move_of-sum-requires c =
    let s = (goal.at.move_of-sum-requires c).In-Some in
    record {
      ranged_word = rw (is s) (word_in c.requires.sound c.requires.ranged (h s));
      t = read (timed-at c.requires (h s) (at-time (goal.at.move_of-sum-requires c).After-from));
    }

pub overflow_add-sum : goal.overflow_add-sum
overflow_add-sum c =
    let t = (goal.at.overflow_add-sum c).After-move_of-sum in
    Σ-fits {s = c.loop-w.sum-bits} (record { total = c.loop-w.invariant }) (so-far-b t) (term t) tt

pub loop-w-preserved : goal.loop-w-preserved
loop-w-preserved c =
    let t = (goal.at.loop-w-preserved c).After-move_of-sum in
    rw (length_push c.loop-w.yielded (c.in-Some.w, c.in-Some.t)) (Σ_turn {s = c.loop-w.sum-bits} (record { total = c.loop-w.invariant }) (so-far-b t) (term t) tt).total

pub returns : goal.returns
returns c =
    let n = words-length c.requires.sound in
    let l = (lent (goal.at.returns c).After-words).long in
    let e = zip_end c.words.result.now c.args.times.now _ _ _ c.next.new.self _ (search rules) (search rules) c.loop-w.yielded_by c.in-None.is c.next.ensures.steps in
    Σ_end {s = c.loop-w.sum-bits} (record { total = c.loop-w.invariant }) _ (omega (arith, e, l, c.requires.each)) (omega (arith, e, l, c.requires.each)) ∙ sym (moves-is _ _)
