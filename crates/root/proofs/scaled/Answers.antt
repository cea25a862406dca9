-- `root::scaled` meets its contract, by `proofs/Shift.antt`.
use native.Mathlib.Omega.{arith}
use Prim.Native.Nat.{ℕ, ◌<◌, ◌^◌}
use Rattle.root.proofs.Shift.{zeros, low_scales, high_scales}
use Rattle.root.proofs.scaled.Goals as goal
use Rattle.root.proofs.scaled.Goals.{Then-e-eq0}

abbrev B : Then-e-eq0 → ℕ
B c = c.args.b

low : (c : Then-e-eq0) → B c < 2 ^ 52
low c = omega arith

pub overflow_sub-s : goal.overflow_sub-s
overflow_sub-s c = (zeros (B c) c.requires.0 (low c)).0

pub overflow_cast-result : goal.overflow_cast-result
overflow_cast-result c = omega (arith, zeros (B c) c.requires.0 (low c))

pub overflow_shl-result : goal.overflow_shl-result
overflow_shl-result c = omega (arith, zeros (B c) c.requires.0 (low c))

pub overflow_cast-result-then-e-eq0 : goal.overflow_cast-result-then-e-eq0
overflow_cast-result-then-e-eq0 c = omega (arith, zeros (B c) c.requires.0 (low c))

pub overflow_sub-result : goal.overflow_sub-result
overflow_sub-result c = omega (arith, zeros (B c) c.requires.0 (low c))

pub returns-then-e-eq0 : goal.returns-then-e-eq0
returns-then-e-eq0 c = low_scales (B c) c.requires.0 (low c)

pub returns-else-e-eq0 : goal.returns-else-e-eq0
returns-else-e-eq0 c = high_scales c.args.b (omega arith) c.requires.1
