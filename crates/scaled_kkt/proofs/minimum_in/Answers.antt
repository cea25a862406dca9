use Rattle.scaled_kkt.specs.Laws.{minimum-from, minimum-none}
use Rattle.scaled_kkt.proofs.minimum_in.Goals as goal

pub returns-in_err-hessian : goal.returns-in_err-hessian
returns-in_err-hessian c = rw c.from_residual.ensures (minimum-none _ _ _ _ _ _ c.in_err-hessian.ensures)

pub returns : goal.returns
returns c =
    minimum-from _ _ _ _ _ _ c.reduced_gradient-gradient.ensures c.in_ok-hessian.ensures c.range_part-v.ensures
    c.moved-x.ensures
