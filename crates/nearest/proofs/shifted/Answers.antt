-- `shifted` is the nearest whole number to d / 2 ^ k.
use Prim.Native.Nat.{ℕ, ◌*◌, ◌%◌, ◌<◌}
use mathlib.Core.Path.{subst}
use native.Mathlib.Nat.{div-le_self, lt_of_le_of_lt, mod-lt, mul_comm}
use native.Mathlib.Omega.{arith}
use borrow.Author.Rules.{rules}
use Rattle.nearest.specs.Pattern.{half_of, whole-is, whole_pos, whole-fits}
use Rattle.nearest.proofs.Sizes.{shifted-is}
use Rattle.nearest.proofs.shifted.Goals as goal

pub overflow_mul-u : goal.overflow_mul-u
overflow_mul-u c = record { fits = whole-fits c.args.k c.requires.1 (omega (arith, c.requires.2)) }

pub nonzero_div-d : goal.nonzero_div-d
nonzero_div-d c = whole_pos c.args.k c.requires.1 (omega (arith, c.requires.2))

pub nonzero_rem-d : goal.nonzero_rem-d
nonzero_rem-d c = whole_pos c.args.k c.requires.1 (omega (arith, c.requires.2))

pub nearer-requires : goal.nearer-requires
nearer-requires c =
    let h = half_of c.args.k in (
      lt_of_le_of_lt (div-le_self c.args.d (h * 2)) c.requires.0,
      subst (λ (u : ℕ). c.args.d % (h * 2) < u) (mul_comm h 2)
          (mod-lt c.args.d (whole_pos c.args.k c.requires.1 (omega (arith, c.requires.2)))),
    )

pub returns : goal.returns
returns c =
    shifted-is c.args.d c.args.k (half_of c.args.k) c.nearer.result (whole-is c.args.k c.requires.1 (omega (arith, c.requires.2)))
    c.nearer.ensures
