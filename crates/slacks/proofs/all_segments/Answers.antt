use Rattle.folds.specs.Kit.{refl, arith, length-set, fold_call}
use Rattle.folds.specs.Fold.{fold-none}
use Rattle.slacks.specs.Laws.{cut-next, segments_made}
use Rattle.slacks.proofs.all_segments.Goals as goal

pub loop-i-init : goal.loop-i-init
loop-i-init c = (omega arith, omega arith, fold-none _ _, λ k l. absurd (omega arith))

pub loop-i-preserved : goal.loop-i-preserved
loop-i-preserved c =
    let at = c.loop-i in
    let s = c.one_segments in (
      omega arith,
      simp length-set at.invariant.1,
      fold_call _ _ _ at.invariant.2 (rw s.ensures.value),
      cut-next at.i at.all s.result (omega arith) s.ensures.cut at.invariant.3,
    )

pub returns : goal.returns
returns c =
    let at = c.loop-i in record {
      value = segments_made _ _ _ _ _ _ _ _ _ at.i _ (omega arith) (omega arith) (omega arith) refl at.invariant.2;
      all_cut = λ k l. at.invariant.3 k (omega arith);
    }
