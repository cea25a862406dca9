-- `root::digits` meets its contract, by `proofs/Halves.antt`.
use native.Mathlib.Omega.{arith}
use Prim.Native.Nat.{ℕ}
use mathlib.Core.Path.{sym}
use Rattle.std.proofs.Common.{add-one}
use Rattle.root.specs.Isqrt.{isqrt_only}
use Rattle.root.proofs.Halves.{Half, half, double_pos, square-fits, low-square-fits, remainder_fits, exact, one_less}
use Rattle.root.proofs.digits.Goals as goal
use Rattle.root.proofs.digits.Goals.{After-isqrt-s}

abbrev M : After-isqrt-s → ℕ
M c = c.args.m

abbrev S : After-isqrt-s → ℕ
S c = c.isqrt-s.result

known : (c : After-isqrt-s) → Half (M c) (S c)
known c = half (M c) (S c) (sym (isqrt_only (M c) (S c) (c.isqrt-s.ensures.square_le, rw add-one at c.isqrt-s.ensures.next_square_gt))) c.requires.0 c.requires.1

pub overflow_mul-rest : goal.overflow_mul-rest
overflow_mul-rest c = record { fits = square-fits (M c) (S c) (known c) }

pub overflow_sub-rest : goal.overflow_sub-rest
overflow_sub-rest c = (known c).square

pub overflow_mul-rest-2 : goal.overflow_mul-rest-2
overflow_mul-rest-2 c = omega (arith, known c)

pub overflow_mul-q : goal.overflow_mul-q
overflow_mul-q c = omega (arith, known c)

pub nonzero_div-q : goal.nonzero_div-q
nonzero_div-q c = double_pos (M c) (S c) (known c)

pub overflow_mul-r : goal.overflow_mul-r
overflow_mul-r c = omega (arith, known c)

pub overflow_add-r : goal.overflow_add-r
overflow_add-r c = omega (arith, known c)

pub overflow_mul-s : goal.overflow_mul-s
overflow_mul-s c = omega (arith, known c)

pub nonzero_rem-rest : goal.nonzero_rem-rest
nonzero_rem-rest c = double_pos (M c) (S c) (known c)

pub overflow_mul-rest-3 : goal.overflow_mul-rest-3
overflow_mul-rest-3 c = record { fits = remainder_fits (M c) (S c) (known c) }

pub overflow_mul-q-2 : goal.overflow_mul-q-2
overflow_mul-q-2 c = record { fits = low-square-fits (M c) (S c) (known c) }

pub overflow_sub-result : goal.overflow_sub-result
overflow_sub-result c = omega (arith, known c.before)

pub returns-then-rest-s : goal.returns-then-rest-s
returns-then-rest-s c = one_less (M c.before) (S c.before) (known c.before) c.if-rest-s.true

pub returns-else-rest-s : goal.returns-else-rest-s
returns-else-rest-s c = exact (M c.before) (S c.before) (known c.before) c.if-rest-s.false
