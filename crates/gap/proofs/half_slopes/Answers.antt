use mathlib.Core.Path.{sym, ◌∙◌, ap, subst}
use Prim.Native.Nat.{ℕ, ◌≤◌}
use native.Mathlib.Omega.{arith}
use lib.Dec.{lit≤}
use lib.ListN.{length}
use Rattle.block.specs.Block.{Tempo}
use Rattle.block.specs.Gap.{slope_of, g}
use Rattle.block.specs.Ranges.{max_words}
use Rattle.block.specs.Laws.{g-is}
use Rattle.block.specs.Fits.{slopes-b}
use Rattle.format.specs.Structs.{block_of, tempo_of}
use Rattle.format.specs.Lent.{lent-tempos}
use Rattle.format.specs.Entries.{tempos-length, tempo-is}
use Rattle.exact.specs.Planned.{plan-timed, plan-tempo}
use Rattle.gap.specs.Words.{Each, Within, totals_none, totals_turn, totals_end, totals_small, zeros_small, added_to_zeros}
use Rattle.gap.proofs.half_slopes.Goals as goal
use Rattle.gap.proofs.half_slopes.Goals.{At-loop-t, Start}

few : (c : Start) → length c.args.times.now ≤ max_words
few c = omega (arith, c.requires.each, c.requires.sound.words)

so_far : (c : At-loop-t) → Within (length c.args.times.now) c.loop-t.sums 2199023255552
so_far c =
    let p = c.requires in
    totals_small c.loop-t.invariant (zeros_small (few (goal.at.At-loop-t c).Start))
    (λ i. slopes-b p.ranged (plan-timed p) i _ (omega (arith, c.loop-t.auto.t-index-end, (lent-tempos p.sound c.tempos-t-items.ensures).long, tempos-length p.sound))) (lit≤ tt)

pub loop-t-init : goal.loop-t-init
loop-t-init c = totals_none _ _ _

pub add_slopes-next-requires : goal.add_slopes-next-requires
add_slopes-next-requires c =
    let p = c.requires in
    let lent = lent-tempos p.sound c.tempos-t-items.ensures in
    let h = lent.within c.loop-t-test.true in
    rw (lent.at _ c.loop-t-test.true) (record { filled = p.sound.tempo_list _ h; ranged_tempo = plan-tempo p h; timed = p.timed; times_len_bound = (few (goal.at.add_slopes-next-requires c).Start, so_far (goal.at.add_slopes-next-requires c).At-loop-t) })

pub loop-t-preserved : goal.loop-t-preserved
loop-t-preserved c =
    let lent = lent-tempos c.requires.sound c.tempos-t-items.ensures in
    totals_turn c.loop-t.invariant c.add_slopes-next.ensures
    (λ i. ap (λ e. slope_of (tempo_of e) c.args.times.now i) (lent.at _ c.loop-t-test.true)
    ∙ ap (λ (e : Tempo). slope_of e c.args.times.now i) (sym (tempo-is c.requires.sound (lent.within c.loop-t-test.true))))

pub returns : goal.returns
returns c =
    let a = (goal.at.returns c).Start in
    let e = tempos-length c.requires.sound in
    let l = (lent-tempos c.requires.sound c.tempos-t-items.ensures).long in
    subst (λ (n : ℕ). Each n (g (block_of c.args.b) c.args.times.now) c.loop-t.sums) c.requires.each
    (added_to_zeros (few a) (totals_end c.loop-t.invariant _ (omega (arith, c.loop-t.auto.t-index-end)) (omega arith) (g-is _ _)))
