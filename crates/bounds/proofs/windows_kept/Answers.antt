use borrow.Author.Rules.{rules}
use borrow.Author.Tests.{not-true, not-false}
use mathlib.Core.Bool.{not}
use lib.IntN.{ℤ, pos}
use lib.ListN.{get_or}
use Rattle.std.proofs.lemmas.List.{length_push}
use Rattle.std.proofs.lemmas.Slice.Zip.{zip_turn, zip_end}
use Rattle.folds.specs.Kit.{ℕ, ◌≡◌, sym, ap, ◌∙◌, ◌<◌, length, arith}
use Rattle.folds.specs.Fold.{all-none, all_turn, all_stop, all_end}
use mir.Syntax.{w32, w64}
use mir.Val.{to_z, of_z, SFits}
use mir.Facts.{to_z-of_z}
use Rattle.ints.specs.Bound.{sfits}
use Rattle.ints.specs.Held.{read}
use Rattle.block.specs.Block.{word}
use Rattle.block.specs.Plan.{time}
use Rattle.block.specs.Keeps.{window_kept}
use Rattle.block.specs.Laws.{windows_kept-is}
use Rattle.format.specs.Structs.{block_of, word_of, word_at}
use Rattle.format.specs.Entries.{words-length, word_in}
use Rattle.format.specs.Lent.{Lent, lent-words}
use Rattle.format.specs.declared.Word.{Word}
use Rattle.exact.specs.Planned.{time_in, timed-at, of-word}
use Rattle.bounds.proofs.windows_kept.Goals as goal
use Rattle.bounds.proofs.windows_kept.Goals.{In-Some, After-words, After-from, After-window_kept}

lent : (c : After-words) → Lent c.args.b.word c.args.b.words c.words.result.now
lent c = lent-words c.requires.sound c.words.ensures

-- ---- a turn: the word and its time
module _ (c : In-Some) where
  abbrev i : ℕ
  i = length c.loop-w.yielded

  turn : (i < length c.words.result.now) × (i < length c.args.times.now) × ((d : Word) → c.in-Some.w.now ≡ get_or c.words.result.now i d) × ((d : ℤ) → c.in-Some.t.now ≡ get_or c.args.times.now i d)
  turn = zip_turn _ _ _ _ _ c.next.new.self _ (search rules) (search rules) c.loop-w.yielded_by _ c.in-Some.is c.next.ensures.steps

  here : Lent c.args.b.word c.args.b.words c.words.result.now
  here = lent (goal.at.In-Some c).After-words

  h : i < c.args.b.words
  h = here.within turn.0

  is : c.in-Some.w.now ≡ word_at c.args.b i
  is = turn.2 _ ∙ here.at _ turn.0

at-time : (c : After-from) → c.from.result ≡ time c.args.times.now (length c.loop-w.yielded)
at-time c =
    let s = (goal.at.After-from c).In-Some in
    let f : SFits w32 (get_or c.args.times.now (i s) (pos 0)) = sfits (time_in c.requires (h s)) tt in
    c.from.ensures ∙ ap (λ z. to_z w32 (of_z w32 z)) ((turn s).3 (pos 0)) ∙ to_z-of_z f

tested : (c : After-window_kept) → c.window_kept.result ≡ window_kept (word (block_of c.args.b) (length c.loop-w.yielded)) (time c.args.times.now (length c.loop-w.yielded))
tested c =
    let s = (goal.at.After-window_kept c).In-Some in
    of-word c.requires (h s) (at-time (goal.at.After-window_kept c).After-from) window_kept
    (c.window_kept.ensures ∙ ap (λ (w : Word). window_kept (word_of w) (to_z w64 (of_z w64 c.from.result))) (is s))

pub loop-w-init : goal.loop-w-init
loop-w-init c = all-none _

pub window_kept-requires : goal.window_kept-requires
window_kept-requires c =
    let s = (goal.at.window_kept-requires c).In-Some in
    record {
      ranged_word = rw (is s) (word_in c.requires.sound c.requires.ranged (h s));
      t = read (timed-at c.requires (h s) (at-time (goal.at.window_kept-requires c).After-from));
    }

pub returns-then-not-window_kept : goal.returns-then-not-window_kept
returns-then-not-window_kept c =
    let n = words-length c.requires.sound in
    let s = (goal.at.returns-then-not-window_kept c).In-Some in
    all_stop _ _ _ (omega (arith, h s)) (sym (tested (goal.at.returns-then-not-window_kept c).After-window_kept) ∙ not-true _ (ap not c.if-not-window_kept.true))
    ∙ sym (windows_kept-is _ _)

pub loop-w-preserved : goal.loop-w-preserved
loop-w-preserved c =
    rw (length_push c.loop-w.yielded (c.in-Some.w, c.in-Some.t))
    (all_turn _ _ c.loop-w.invariant (sym (tested (goal.at.loop-w-preserved c).After-window_kept) ∙ not-false _ (ap not c.if-not-window_kept.false)))

pub returns : goal.returns
returns c =
    let n = words-length c.requires.sound in
    let l = (lent (goal.at.returns c).After-words).long in
    let e = zip_end c.words.result.now c.args.times.now _ _ _ c.next.new.self _ (search rules) (search rules) c.loop-w.yielded_by c.in-None.is c.next.ensures.steps in
    all_end _ _ _ (omega (arith, e, l, c.requires.each)) (omega (arith, e, l, c.requires.each)) c.loop-w.invariant ∙ sym (windows_kept-is _ _)
