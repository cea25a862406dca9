use Rattle.folds.specs.Kit.{◌+◌, ◌-◌, ◌≤◌, ◌<◌, length, arith, rules, sym}
use Rattle.std.specs.Prelude.{take, drop}
use Rattle.std.proofs.lemmas.Result.{err_from_is_err_and}
use Rattle.format.specs.Loop.{FieldRead, Parts, rest, read-start, read_stop, read-field, field-parts, read_end, read-unended}
use Rattle.format.specs.Fields.{word-room, word-read, tempo-room, tempo-read, anchor-room, anchor-read, span-room, span-read, cap-read}
use Rattle.format.specs.InRange.{read-ranged}
use Rattle.reader.proofs.read.Goals as goal
use Rattle.reader.proofs.read.Goals.{After-u16_at}

-- a turn whose field is accepted, and its parts, once they are taken
module _ (c : After-u16_at) where
  field : FieldRead c.args.s.now c.loop-at.at c.loop-at.block
  field = read-field _ _ _ _ c.loop-at.invariant c.loop-at-test.true c.in_ok-field_verdict.ensures

  parts : Parts c.args.s.now c.loop-at.at c.loop-at.block c.byte_at-last.result (take ((3 + c.u16_at.result) - 3) (drop 3 (rest c.args.s.now c.loop-at.at))) c.count_of-n.result (3 + c.u16_at.result)
  parts = field-parts c.loop-at.invariant.sound field c.byte_at-last.ensures.0 c.count_of-n.ensures.0 c.u16_at.ensures.0

  ends : c.loop-at.at + (3 + c.u16_at.result) ≤ length c.args.s.now
  ends = omega (arith, field.place, c.u16_at.ensures.0)

pub loop-at-init : goal.loop-at-init
loop-at-init c = read-start _ _ c.empty-block.ensures.0 c.empty-block.ensures.1

pub returns-in_err-field_verdict-clause-result_value : goal.returns-in_err-field_verdict-clause-result_value
returns-in_err-field_verdict-clause-result_value c =
    let p = err_from_is_err_and c.from_residual.result c.from_residual.ensures.1 in
    rw (p.1, p.2) (read_stop _ _ _ _ c.loop-at.invariant c.loop-at-test.true _ c.in_err-field_verdict.ensures)

pub slice_bounds-b-end : goal.slice_bounds-b-end
slice_bounds-b-end c = let w = (field (goal.at.slice_bounds-b-end c).After-u16_at).whole in omega (arith, w.header, w.body, c.u16_at.ensures.0)

pub bounds-block-block : goal.bounds-block-block
bounds-block-block c =
    omega
    (arith, word-room (parts (goal.at.bounds-block-block c).After-u16_at) c.in-1.is, c.loop-at.invariant.sound.word)

pub loop-at-preserved-in-1 : goal.loop-at-preserved-in-1
loop-at-preserved-in-1 c =
    word-read (parts (goal.at.loop-at-preserved-in-1 c).After-u16_at) c.in-1.is _ c.word_from.ensures

pub bounds-block-block-in-2 : goal.bounds-block-block-in-2
bounds-block-block-in-2 c =
    omega
    (arith, tempo-room (parts (goal.at.bounds-block-block-in-2 c).After-u16_at) (λ e. omega (arith, e, c.in-2.is)) c.in-2.is, c.loop-at.invariant.sound.tempo)

pub loop-at-preserved-in-2 : goal.loop-at-preserved-in-2
loop-at-preserved-in-2 c =
    tempo-read (parts (goal.at.loop-at-preserved-in-2 c).After-u16_at) (λ e. omega (arith, e, c.in-2.is)) c.in-2.is _ c.tempo_from.ensures

pub bounds-block-block-in-3 : goal.bounds-block-block-in-3
bounds-block-block-in-3 c =
    omega
    (arith, anchor-room (parts (goal.at.bounds-block-block-in-3 c).After-u16_at) (λ e. omega (arith, e, c.in-3.is)) (λ e. omega (arith, e, c.in-3.is)) c.in-3.is, c.loop-at.invariant.sound.anchor)

pub loop-at-preserved-in-3 : goal.loop-at-preserved-in-3
loop-at-preserved-in-3 c =
    anchor-read (parts (goal.at.loop-at-preserved-in-3 c).After-u16_at) (λ e. omega (arith, e, c.in-3.is)) (λ e. omega (arith, e, c.in-3.is)) c.in-3.is _ c.anchor_from.ensures

pub bounds-block-block-in-4 : goal.bounds-block-block-in-4
bounds-block-block-in-4 c =
    omega
    (arith, span-room (parts (goal.at.bounds-block-block-in-4 c).After-u16_at) (λ e. omega (arith, e, c.in-4.is)) (λ e. omega (arith, e, c.in-4.is)) (λ e. omega (arith, e, c.in-4.is)) c.in-4.is, c.loop-at.invariant.sound.span)

pub loop-at-preserved-in-4 : goal.loop-at-preserved-in-4
loop-at-preserved-in-4 c =
    span-read (parts (goal.at.loop-at-preserved-in-4 c).After-u16_at) (λ e. omega (arith, e, c.in-4.is)) (λ e. omega (arith, e, c.in-4.is)) (λ e. omega (arith, e, c.in-4.is)) c.in-4.is _ c.span_from.ensures

pub loop-at-preserved : goal.loop-at-preserved
loop-at-preserved c =
    cap-read (parts (goal.at.loop-at-preserved c).After-u16_at) (search rules) (search rules) (search rules) (search rules) _ c.u32_at.ensures.0

pub returns-in_err-end_verdict-clause-result_value : goal.returns-in_err-end_verdict-clause-result_value
returns-in_err-end_verdict-clause-result_value c =
    let p = err_from_is_err_and c.from_residual-in_err-end_verdict.result c.from_residual-in_err-end_verdict.ensures.1 in
    rw (p.1, p.2) (read-unended _ _ _ _ c.loop-at.invariant c.loop-at-test.false _ c.in_err-end_verdict.ensures)

pub returns-clause-result_value : goal.returns-clause-result_value
returns-clause-result_value c = read_end _ _ _ _ c.loop-at.invariant c.loop-at-test.false c.in_ok-end_verdict.ensures

pub returns-clause-ranged : goal.returns-clause-ranged
returns-clause-ranged c = read-ranged _ _ (sym (read_end _ _ _ _ c.loop-at.invariant c.loop-at-test.false c.in_ok-end_verdict.ensures))
