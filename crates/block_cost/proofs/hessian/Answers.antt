use Rattle.folds.specs.Kit.{refl, sym, ap, ◌∙◌, ◌*◌, fold_call, fold_end, kit, arith}
use Rattle.folds.specs.Cell.{area}
use Rattle.arith.specs.Float.{f0}
use Rattle.vector.specs.Laws.{over-filled}
use Rattle.block.specs.Block.{Tempo}
use Rattle.format.specs.Structs.{tempo_of}
use Rattle.format.specs.Entries.{words-length, tempos-length, tempo-is, tempo_in}
use Rattle.format.specs.Lent.{lent-tempos}
use Rattle.block_cost.specs.Cost.{add_products, hessian}
use Rattle.block_cost.proofs.hessian.Goals as goal

pub add_products-requires : goal.add_products-requires
add_products-requires c =
    let p = c.requires in
    let lent = lent-tempos c.requires.sound c.tempos-t-items.ensures in
    let h = lent.within c.loop-t-test.true in
    rw (lent.at _ c.loop-t-test.true) (record { filled = p.sound.tempo_list _ h; ranged_tempo = tempo_in p.sound p.ranged h; n_bound = (p.sound.words, omega (arith, p.q_len)) })

pub loop-t-preserved : goal.loop-t-preserved
loop-t-preserved c =
    let lent = lent-tempos c.requires.sound c.tempos-t-items.ensures in
    let h = lent.within c.loop-t-test.true in (
      omega arith,
      fold_call _ _ _ c.loop-t.invariant.1
          (c.add_products.ensures
          ∙ ap (λ w. add_products c.args.b.words (tempo_of w) c.loop-t.q) (lent.at _ c.loop-t-test.true) ∙ ap (λ (w : Tempo). add_products c.args.b.words w c.loop-t.q) (sym (tempo-is c.requires.sound h))),
    )

pub returns : goal.returns
unfolding hessian
returns c =
    let p = c.requires in
    let m = tempos-length p.sound in
    let lent = lent-tempos p.sound c.tempos-t-items.ensures in
    let n = c.args.b.words in
    rw (words-length p.sound, ← over-filled (n * n) f0 c.args.q.now p.q_len, ← c.fill.ensures)
    (fold_end _ _ _ _ (omega (arith, c.loop-t.auto.t-index-end, lent.long)) (omega (arith, lent.long, c.loop-t-test.false)) c.loop-t.invariant.1)

pub overflow_mul-n : goal.overflow_mul-n
overflow_mul-n c = let n = c.requires.sound.words in omega (arith, area n n)

pub fill-requires : goal.fill-requires
fill-requires c = omega (arith, c.requires.q_len)

pub loop-t-init : goal.loop-t-init
loop-t-init c = (refl, search kit)
