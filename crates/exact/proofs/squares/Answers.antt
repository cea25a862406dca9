use mathlib.Core.Path.{sym, ◌∙◌, ap}
use Prim.Native.Nat.{◌<◌}
use native.Mathlib.Omega.{arith}
use mir.Syntax.{w64}
use mir.Val.{of_z}
use Rattle.ints.specs.Sum.{Σ}
use Rattle.ints.specs.Bound.{◌≼◌}
use Rattle.ints.specs.Held.{Held, called, Σ-none, Σ-fits, Σ_turn, Σ_end}
use Rattle.block.specs.Block.{Tempo, tempo}
use Rattle.block.specs.Plan.{square_of}
use Rattle.block.specs.Laws.{squares-is}
use Rattle.block.specs.Fits.{square_of-b, squares-b}
use Rattle.format.specs.Structs.{block_of, tempo_of}
use Rattle.format.specs.Entries.{tempos-length, tempo-is, in_tempos}
use Rattle.format.specs.Lent.{Lent, lent-tempos}
use Rattle.exact.specs.Planned.{plan-timed, plan-tempo}
use Rattle.exact.proofs.squares.Goals as goal
use Rattle.exact.proofs.squares.Goals.{After-square_of-sum, After-tempos-t-items}

lent : (c : After-tempos-t-items) → Lent c.args.b.tempo c.args.b.tempos c.tempos-t-items.result.now
lent c = lent-tempos c.requires.sound c.tempos-t-items.ensures

-- ---- a turn
module _ (c : After-square_of-sum) where
  here : Lent c.args.b.tempo c.args.b.tempos c.tempos-t-items.result.now
  here = lent (goal.at.After-square_of-sum c).After-tempos-t-items

  h : c.loop-t.t-index < c.args.b.tempos
  h = here.within c.loop-t-test.true

  term : Held w64 (of_z w64 c.square_of-sum.result) (square_of (tempo (block_of c.args.b) c.loop-t.t-index) c.args.times.now)
      18014398509481984
  term =
      called w64
      (c.square_of-sum.ensures ∙ ap (λ e. square_of (tempo_of e) c.args.times.now) (here.at _ c.loop-t-test.true) ∙ ap (λ (e : Tempo). square_of e c.args.times.now) (sym (tempo-is c.requires.sound h)))
      (square_of-b (plan-timed c.requires) (c.requires.ranged.each_tempo _ (in_tempos c.requires.sound h))) tt

  so-far-b : Σ c.loop-t.t-index (λ j. square_of (tempo (block_of c.args.b) j) c.args.times.now) ≼ 1152921504606846976
  so-far-b = squares-b c.requires.ranged (plan-timed c.requires) c.loop-t.t-index (omega (arith, c.loop-t.auto.t-index-end, here.long, tempos-length c.requires.sound))

pub loop-t-init : goal.loop-t-init
loop-t-init c = (Σ-none _).total

pub square_of-sum-requires : goal.square_of-sum-requires
square_of-sum-requires c =
    let p = c.requires in
    let l = lent (goal.at.square_of-sum-requires c).After-tempos-t-items in
    let h = l.within c.loop-t-test.true in
    rw (l.at _ c.loop-t-test.true) (record { filled = p.sound.tempo_list _ h; ranged_tempo = plan-tempo p h; timed = p.timed })

pub overflow_add-sum : goal.overflow_add-sum
overflow_add-sum c =
    let t = (goal.at.overflow_add-sum c).After-square_of-sum in
    Σ-fits {s = c.loop-t.sum-bits} (record { total = c.loop-t.invariant }) (so-far-b t) (term t) tt

pub loop-t-preserved : goal.loop-t-preserved
loop-t-preserved c =
    let t = (goal.at.loop-t-preserved c).After-square_of-sum in
    (Σ_turn {s = c.loop-t.sum-bits} (record { total = c.loop-t.invariant }) (so-far-b t) (term t) tt).total

pub returns : goal.returns
returns c =
    let n = tempos-length c.requires.sound in
    let l = (lent (goal.at.returns c).After-tempos-t-items).long in
    Σ_end {s = c.loop-t.sum-bits} (record { total = c.loop-t.invariant }) _ (omega (arith, c.loop-t.auto.t-index-end)) (omega arith) ∙ sym (squares-is _ _)
