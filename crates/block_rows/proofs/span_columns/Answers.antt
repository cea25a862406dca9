use Rattle.folds.specs.Kit.{refl, sym, ap, ◌∙◌, ◌*◌, ◌≤◌, length, arith, col_end}
use Rattle.block.specs.Block.{Span}
use Rattle.format.specs.Entries.{words-length, spans-length, span-is, span_in}
use Rattle.format.specs.Lent.{lent-spans}
use Rattle.format.specs.Structs.{list_of}
use Rattle.block_rows.specs.Rows.{span_columns}
use Rattle.block_rows.specs.Entries.{columns-none, columns_turn, columns_end}
use Rattle.block_rows.proofs.span_columns.Goals as goal

pub put_column-requires : goal.put_column-requires
put_column-requires c =
    let lent = lent-spans c.requires.sound c.spans-s-items.ensures in
    let h = lent.within c.loop-k-test.true in
    let l : c.args.b.words * c.args.b.spans ≤ length c.loop-k.a = omega (arith, c.requires.a_len, c.loop-k.invariant.0) in
    record {
      filled = rw (lent.at _ c.loop-k-test.true) (c.requires.sound.span_list _ h);
      ranged_list = rw (lent.at _ c.loop-k-test.true) (span_in c.requires.sound c.requires.ranged h).list;
      n_in_bounds = col_end _ _ c.args.b.spans _ l h;
    }

pub loop-k-preserved : goal.loop-k-preserved
loop-k-preserved c =
    let p = c.requires in
    let lent = lent-spans p.sound c.spans-s-items.ensures in
    let e = span-is p.sound (lent.within c.loop-k-test.true) in (
      omega arith,
      columns_turn _ _ _ _ c.loop-k.invariant.1 (ap (λ (w : Span). w.list) e ∙ ap (λ w. list_of w.list) (sym (lent.at _ c.loop-k-test.true))) c.put_column.ensures,
    )

pub returns : goal.returns
unfolding span_columns
returns c =
    let p = c.requires in
    let lent = lent-spans p.sound c.spans-s-items.ensures in
    rw (words-length p.sound, spans-length p.sound)
    (columns_end _ _ _ _ _ (omega (arith, c.loop-k.auto.k-end, lent.long)) (omega (arith, c.loop-k-test.false, lent.long)) (omega (arith, p.a_len, c.loop-k.invariant.0)) c.loop-k.invariant.1)

pub loop-k-init : goal.loop-k-init
loop-k-init c = (refl, columns-none _ _ _)
