use Rattle.folds.specs.Kit.{◌+◌, ℕ, ◌≤◌, sym, ◌∙◌, arith}
use mir.Syntax.{w64}
use lib.IntN.{pos}
use Rattle.ints.specs.Held.{Held, cast, less, fits-}
use Rattle.format.specs.Signed.{signed-small, signed_large}
use Rattle.numbers.proofs.signed.Goals as goal

positive : (n : ℕ) → n ≤ 4294967296 → Held w64 n (pos n) 4294967296
positive n h = cast w64 h tt

pub overflow_sub-result : goal.overflow_sub-result
overflow_sub-result c = let a = c.args in fits- (positive a.n (omega arith)) (positive (a.half + a.half) (omega arith)) tt

pub returns-then-n-half : goal.returns-then-n-half
returns-then-n-half c = (positive c.args.n (omega arith)).is ∙ sym (signed-small _ _ c.if-n-half.true)

pub returns-else-n-half : goal.returns-else-n-half
returns-else-n-half c =
    let a = c.args in
    (less (positive a.n (omega arith)) (positive (a.half + a.half) (omega arith)) tt).is ∙ sym (signed_large _ _ c.if-n-half.false)
