use Rattle.folds.specs.Kit.{sym, ◌∙◌, arith, pick}
use Rattle.triangular.specs.Pivots.{definite-regular}
use Rattle.probe.specs.Hooks.{answered, solve, matrices_true, vectors_true}
use Rattle.probe.proofs.answer.Goals as goal

pub positive_definite-requires : goal.positive_definite-requires
positive_definite-requires c =
    let h = matrices_true _ _ _ _ _ _ _ (sym c.matrices.ensures ∙ c.if-matrices.true) in omega (arith, h.factor)

pub solved-requires : goal.solved-requires
solved-requires c = (
  matrices_true _ _ _ _ _ _ _ (sym c.matrices.ensures ∙ c.if-matrices.true),
  vectors_true _ _ _ _ _ _ (sym c.vectors.ensures ∙ c.if-vectors.true),
  definite-regular _ _ (sym c.positive_definite.ensures ∙ c.if-positive_definite.true),
)

pub returns-then-positive_definite : goal.returns-then-positive_definite
unfolding solve pick
returns-then-positive_definite c =
    rw (
      ← c.matrices.ensures,
      c.if-matrices.true,
      ← c.vectors.ensures,
      c.if-vectors.true,
      ← c.positive_definite.ensures,
      c.if-positive_definite.true,
    ) c.solved.ensures

pub returns-then-vectors : goal.returns-then-vectors
unfolding answered solve pick
returns-then-vectors c =
    rw (
      ← c.matrices.ensures,
      c.if-matrices.true,
      ← c.vectors.ensures,
      c.if-vectors.true,
      ← c.positive_definite.ensures,
      c.if-positive_definite.false,
    )

pub returns-then-matrices : goal.returns-then-matrices
unfolding answered solve pick
returns-then-matrices c = rw (← c.matrices.ensures, c.if-matrices.true, ← c.vectors.ensures, c.if-vectors.false)

pub returns : goal.returns
unfolding answered solve pick
returns c = rw (← c.matrices.ensures, c.if-matrices.false)
