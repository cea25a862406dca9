use Rattle.folds.specs.Kit.{refl, sym, ap, ◌∙◌, set, length-set, fold_call, arith, kit}
use Rattle.arith.specs.Float.{fromℕ}
use Rattle.block.specs.Block.{Word}
use Rattle.format.specs.Structs.{word_of}
use Rattle.format.specs.Entries.{words-length, word-is}
use Rattle.format.specs.Lent.{lent-words}
use Rattle.word_numbers.specs.Words.{each_word}
use Rattle.block_floats.specs.Entries.{filled_by}
use Rattle.word_numbers.proofs.each_word.Goals as goal

pub loop-i-preserved : goal.loop-i-preserved
loop-i-preserved g c =
    let l = c.loop-i in
    let lent = lent-words c.requires.sound c.words-w-items.ensures in (
      simp length-set l.invariant.0,
      λ f gives. fold_call _ _ _ (l.invariant.1 f gives)
          (ap (set l.y l.i) (c.nearest_u64_to_f64.ensures
          ∙ ap fromℕ (gives _ _ (record { shown = _; shows = refl; says = record { met = c.number.ensures } }) ∙ ap (λ w. f (word_of w)) (lent.at _ c.loop-i-test.true)))),
    )

pub returns : goal.returns
unfolding each_word
returns g c = λ f gives.
    let l = c.loop-i in
    let lent = lent-words c.requires.sound c.words-w-items.ensures in
    filled_by _ _ _ _ _ _ (words-length c.requires.sound) (λ i k. ap (λ (w : Word). fromℕ (f w)) (sym (word-is c.requires.sound k)))
    (omega (arith, l.auto.i-end, lent.long)) (omega (arith, c.loop-i-test.false, lent.long)) c.requires.y_len (l.invariant.1 f gives)

pub loop-i-init : goal.loop-i-init
loop-i-init g c = (refl, λ f gives. search kit)
