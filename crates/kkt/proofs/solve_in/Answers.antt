use Rattle.units.specs.Laws.{units_k_copied, units_e_copied}
use Rattle.kkt.specs.Laws.{units-from}
use Rattle.kkt.proofs.solve_in.Goals as goal

pub returns : goal.returns
returns c =
    units-from _ _ _ _ _ _ c.diagonal_scales-scales.ensures c.column_scales-columns.ensures
    (units_k_copied _ _ _ _ c.copy.ensures c.units_k.ensures)
    (units_e_copied _ _ _ _ _ _ c.copy-2.ensures c.units_e.ensures)
    c.div-uc.ensures
    c.div-ub.ensures
    c.solve_noisy_kkt-s.ensures
    c.original.ensures
