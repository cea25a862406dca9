use Rattle.folds.specs.Kit.{◌≡◌, arith, length, ◌∙◌, length-tab}
use Rattle.vector.specs.Laws.{copy-over}
use Rattle.matrix.specs.Laws.{over-identity}
use Rattle.constraints.specs.Laws.{transposed_from}
use Rattle.constraints.proofs.q_transpose_in.Goals as goal

pub qr-requires : goal.qr-requires
qr-requires c =
    let r = c.requires in
    let marks : length c.args.made.now ≡ c.args.rank = rw r.2 (length-tab _ _) in
    (omega arith, r.4, omega arith, omega arith)

pub q_tr_mul-requires : goal.q_tr_mul-requires
q_tr_mul-requires c =
    let r = c.requires in
    let marks : length c.args.made.now ≡ c.args.rank = rw r.2 (length-tab _ _) in
    (omega arith, r.4, omega arith, omega arith)

pub returns : goal.returns
returns c =
    let a = c.args in
    let r = c.requires in
    transposed_from a.n a.rank a.range.now (c.copy.ensures ∙ copy-over _ _ _ r.0 r.1) r.2
    (c.identity.ensures ∙ over-identity _ _ r.3) c.qr.ensures c.q_tr_mul.ensures
