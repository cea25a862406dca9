use Rattle.folds.specs.Kit.{◌+◌, ◌≤◌, arith, rules}
use Rattle.folds.specs.Cell.{area}
use Rattle.sizes.specs.Sizes as Sizes
use Rattle.sizes.specs.Sizes.{few}
use Rattle.in_units.proofs.engine_sized.Goals as goal

pub engine_within-requires : goal.engine_within-requires
engine_within-requires c =
    let a = c.args in
    let p = c.requires in
    let n : a.n ≤ few = omega arith in
    let v : a.n + a.r ≤ few + few = omega arith in
    let w : a.m + a.r ≤ few + few = omega (arith, p.3) in
    let rows = area n v in
    let columns = area n w in
    let square = area n n in
    let gram = area w w in
    (p.0, p.1, p.2, omega arith, omega arith, omega arith, omega arith, omega arith, omega arith, omega arith, omega arith, omega arith)

pub engine_within-requires-2 : goal.engine_within-requires-2
engine_within-requires-2 c =
    let a = c.args in
    let p = c.requires in
    let n : a.n ≤ Sizes.originals = p.0.few in
    let rows = area n p.0.variables in
    let columns = area n p.0.columns in
    let square = area n n in
    let gram = area p.0.columns p.0.columns in
    (p.0, p.1, p.2, omega arith, omega arith, omega arith, omega arith, omega arith, omega arith, omega arith, omega arith, omega arith)
