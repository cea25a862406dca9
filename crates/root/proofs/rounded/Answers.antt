-- `root::rounded` meets its contract: the 54 digits and one fit.
use native.Mathlib.Omega.{arith}
use Prim.Native.Nat.{◌<◌, ◌^◌}
use Rattle.root.proofs.Settle.{root-fits}
use Rattle.root.proofs.rounded.Goals as goal

pub overflow_add-result : goal.overflow_add-result
overflow_add-result c =
    let h : c.digits.result < 2 ^ 54 = rw c.digits.ensures (root-fits c.args.m c.requires.1) in omega arith

pub returns : goal.returns
returns c = rw c.digits.ensures
