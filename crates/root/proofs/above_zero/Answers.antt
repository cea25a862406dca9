-- `root::above_zero` meets its contract, by `proofs/Assembled.antt`.
use native.Mathlib.Omega.{arith}
use Prim.Native.Nat.{ℕ}
use Rattle.root.proofs.Assembled.{asked, below, result_no_nan, result}
use Rattle.root.proofs.above_zero.Goals as goal
use Rattle.root.proofs.above_zero.Goals.{After-scaled-v}

abbrev B : After-scaled-v → ℕ
B c = c.args.b

abbrev M : After-scaled-v → ℕ
M c = c.scaled-v.result.m

abbrev C : After-scaled-v → ℕ
C c = c.scaled-v.result.c

pub guess-requires : goal.guess-requires
guess-requires c = (c.scaled-v.ensures.upper, omega arith)

pub nearest-q-requires : goal.nearest-q-requires
nearest-q-requires c =
    let s = c.before.before in
    let k = asked (B s) (M s) (C s) c.requires.1 c.scaled-v.ensures in
    (k.0, k.1, c.guess.ensures.0, c.guess.ensures.1)

pub overflow_add-result : goal.overflow_add-result
overflow_add-result c =
    let s = c.before.before.before in
    let k = below (B s) (M s) (C s) c.requires.1 c.scaled-v.ensures c.nearest-q.result c.nearest-q.ensures in
    omega (arith, c.scaled-v.ensures.small)

pub float_from_bits-result : goal.float_from_bits-result
float_from_bits-result c =
    let s = c.before.before.before in
    result_no_nan (B s) (M s) (C s) c.requires.1 c.scaled-v.ensures c.nearest-q.result c.nearest-q.ensures

pub returns : goal.returns
returns c =
    let s = c.before.before.before in
    result (B s) (M s) (C s) c.requires.1 c.scaled-v.ensures c.nearest-q.result c.nearest-q.ensures
