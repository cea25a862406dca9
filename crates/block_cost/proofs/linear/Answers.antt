use Rattle.std.proofs.Common.{subst}
use Rattle.folds.specs.Kit.{refl, ℕ, ◌≡◌, sym, ap, ◌∙◌, length, fold_call, fold_end, kit, arith}
use Rattle.arith.specs.Float.{f0}
use Rattle.vector.specs.Laws.{over-filled}
use Rattle.block.specs.Block.{Tempo}
use Rattle.block.specs.Ranges.{RangedTempo}
use Rattle.format.specs.Structs.{tempo_of, tempo_at}
use Rattle.format.specs.Entries.{words-length, tempos-length, tempo-is, tempo_in}
use Rattle.format.specs.Lent.{lent-tempos}
use Rattle.block_cost.specs.Cost.{add_targets, linear}
use Rattle.block_cost.proofs.linear.Goals as goal

pub add_targets-requires : goal.add_targets-requires
add_targets-requires c =
    let p = c.requires in
    let lent = lent-tempos c.requires.sound c.tempos-t-items.ensures in
    let h = lent.within c.loop-t-test.true in
    let e : c.args.b.words ≡ length c.loop-t.c = omega arith in
    rw (lent.at _ c.loop-t-test.true) (record {
      filled = p.sound.tempo_list _ h;
      ranged_tempo = subst (λ (n : ℕ). RangedTempo n (tempo_of (tempo_at c.args.b c.loop-t.t-index))) e (tempo_in p.sound p.ranged h);
    })

pub loop-t-preserved : goal.loop-t-preserved
loop-t-preserved c =
    let p = c.requires in
    let lent = lent-tempos c.requires.sound c.tempos-t-items.ensures in
    let h = lent.within c.loop-t-test.true in (
      omega arith,
      fold_call _ _ _ c.loop-t.invariant.1
          (c.add_targets.ensures ∙ ap (λ w. add_targets (tempo_of w) c.loop-t.c) (lent.at _ c.loop-t-test.true) ∙ ap (λ (w : Tempo). add_targets w c.loop-t.c) (sym (tempo-is p.sound h))),
    )

pub returns : goal.returns
unfolding linear
returns c =
    let p = c.requires in
    let m = tempos-length p.sound in
    let lent = lent-tempos p.sound c.tempos-t-items.ensures in
    rw (words-length p.sound, ← over-filled c.args.b.words f0 c.args.c.now p.c_len, ← c.fill.ensures)
    (fold_end _ _ _ _ (omega (arith, c.loop-t.auto.t-index-end, lent.long)) (omega (arith, lent.long, c.loop-t-test.false)) c.loop-t.invariant.1)

pub loop-t-init : goal.loop-t-init
loop-t-init c = (refl, search kit)
