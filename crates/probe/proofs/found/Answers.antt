use Rattle.folds.specs.Kit.{sym, ◌∙◌, pick}
use Rattle.eigen.specs.Laws.{given-nothing}
use Rattle.probe.specs.Probe.{eigen, shape}
use Rattle.probe.proofs.found.Goals as goal

pub symmetric_eigen-requires : goal.symmetric_eigen-requires
unfolding eigen pick
symmetric_eigen-requires c =
    let h = shape _ _ _ _ _ (sym c.shaped.ensures ∙ c.if-shaped.true) in
    (h.matrix, h.work, h.column, h.square)

pub returns-then-shaped : goal.returns-then-shaped
unfolding eigen pick
returns-then-shaped c = rw (← c.shaped.ensures, c.if-shaped.true) c.symmetric_eigen.ensures

pub returns : goal.returns
unfolding eigen pick
returns c = rw (← c.shaped.ensures, c.if-shaped.false) (given-nothing _ _)
