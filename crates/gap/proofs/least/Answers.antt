use mathlib.Core.Path.{◌≡◌, sym, ◌∙◌, ap₂}
use borrow.Author.Tests.{le-leb, lt-leb}
use Prim.Native.Nat.{ℕ, ◌≤◌}
use lib.IntN.{ℤ, pos}
use mir.Syntax.{w64}
use mir.Val.{to_z, of_z}
use Rattle.std.specs.Int.{int_min}
use Rattle.ints.specs.Diff.{minℤ}
use Rattle.gap.proofs.Library.{smallest}
use Rattle.ints.specs.Bound.{pos_b, min-b}
use Rattle.ints.specs.Held.{Held, cell, called, cast, read}
use Rattle.block.specs.Block.{Word}
use Rattle.block.specs.Gap.{line}
use Rattle.block.specs.Least.{least-inside, least-before, least-after}
use Rattle.block.specs.Fits.{line-b}
use Rattle.format.specs.Structs.{word_of}
use Rattle.gap.proofs.least.Goals as goal
use Rattle.gap.proofs.least.Goals.{After-min-ends, Start}

line_same : (w : Word) (c : ℕ) {s s' t t' : ℤ} → s ≡ s' → t ≡ t' → line w s c t ≡ line w s' c t'
line_same w c p q = ap₂ (λ (s t : ℤ). line w s c t) p q

-- a call of `line` at the time u of the word
at-time : (c : Start) {r : ℤ} {u : ℕ} → u ≤ 262144 → r ≡ line (word_of c.args.w) (to_z w64 (of_z w64 c.args.h)) c.args.cap (to_z w64 u)
    → Held w64 (of_z w64 r) (line (word_of c.args.w) c.args.h c.args.cap (pos u)) 1443403714931458048
at-time c {r} {u} b e =
    called w64 (e ∙ line_same (word_of c.args.w) c.args.cap (cell w64 c.requires.h.0 tt).is (cast w64 b tt).is)
    (line-b c.requires.ranged_word (pos_b b) c.args.h c.args.cap c.requires.h.0 c.requires.h.1) tt

-- the smaller of the line at both ends
module _ (c : After-min-ends) where
  abbrev l : ℕ → ℤ
  l t = line (word_of c.args.w) c.args.h c.args.cap (pos t)

  low : Held w64 (of_z w64 c.line-low.result) (l c.args.w.lower) 1443403714931458048
  low = at-time (goal.at.After-min-ends c).Start c.requires.ranged_word.lower c.line-low.ensures

  high : Held w64 (of_z w64 c.line.result) (l c.args.w.upper) 1443403714931458048
  high = at-time (goal.at.After-min-ends c).Start c.requires.ranged_word.upper c.line.ensures

  ends : Held w64 (of_z w64 c.min-ends.result) (minℤ (l c.args.w.lower) (l c.args.w.upper)) 1443403714931458048
  ends = called w64 (c.min-ends.ensures.value ∙ ap₂ int_min low.is high.is ∙ smallest _ _) (min-b low.bound high.bound) tt

pub returns-then-w-2 : goal.returns-then-w-2
returns-then-w-2 c =
    let e = (goal.at.returns-then-w-2 c).After-min-ends in
    let key = at-time (goal.at.returns-then-w-2 c).Start c.requires.ranged_word.key c.line-then-w-2.ensures in
    (called w64 (c.min.ensures.value ∙ ap₂ int_min (ends e).is key.is ∙ smallest _ _) (min-b (ends e).bound key.bound) tt).is
    ∙ sym
    (least-inside _ (word_of c.args.w) (le-leb _ _ c.if-w.true)
    (le-leb _ _ c.if-w-2.true))

pub returns-else-w-2 : goal.returns-else-w-2
returns-else-w-2 c =
    let e = (goal.at.returns-else-w-2 c).After-min-ends in
    (ends e).is ∙ sym (least-after _ (word_of c.args.w) (le-leb _ _ c.if-w.true) (lt-leb _ _ c.if-w-2.false))

pub returns-else-w : goal.returns-else-w
returns-else-w c =
    let e = (goal.at.returns-else-w c).After-min-ends in
    (ends e).is ∙ sym (least-before _ (word_of c.args.w) (lt-leb _ _ c.if-w.false))

pub line-low-requires : goal.line-low-requires
line-low-requires c =
    let p = c.requires in record {
      ranged_word = p.ranged_word;
      h = (read (cell w64 p.h.0 tt), p.h.1, read (cast w64 p.ranged_word.lower tt));
    }

pub line-requires : goal.line-requires
line-requires c =
    let p = c.requires in record {
      ranged_word = p.ranged_word;
      h = (read (cell w64 p.h.0 tt), p.h.1, read (cast w64 p.ranged_word.upper tt));
    }

pub line-requires-then-w-2 : goal.line-requires-then-w-2
line-requires-then-w-2 c =
    let p = c.requires in
    record {
      ranged_word = p.ranged_word;
      h = (read (cell w64 p.h.0 tt), p.h.1, read (cast w64 p.ranged_word.key tt));
    }
