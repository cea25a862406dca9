-- `whole` is the nearest whole number.
use mathlib.Core.Path.{◌≡◌, sym, ap, ◌∙◌, subst}
use mathlib.Core.Bool.{Bool, true, false}
use Prim.Native.Nat.{ℕ, ◌*◌, ◌%◌, ◌^◌, ◌≤◌, ◌<◌}
use borrow.Author.Tests.{le-leb, lt-leb}
use lib.Dec.{T, leb}
use lib.IntN.{pos, neg_ℤ, ◌-ℤ◌, +ℤ_idl}
use lib.Ieee.{Float, binary64, fits, to_bits}
use mir.Syntax.{w64}
use Rattle.ints.specs.Bound.{sfits}
use Rattle.ints.specs.Held.{Held, cast, literal, fits-, less}
use Rattle.root.specs.Scaled.{magnitude}
use Rattle.arith.specs.Scalar.{is_finite}
use Rattle.nearest.specs.Whole.{even, even_neg}
use Rattle.nearest.specs.Value.{one, one_pos, signed}
use Rattle.nearest.specs.Nearest.{nearest}
use Rattle.nearest.specs.Reach.{in_reach, reach_finite, reach_bounds}
use Rattle.nearest.proofs.Sizes.{size-small}
use Rattle.nearest.specs.Pattern.{not_nan, read-units, in_reach_lem}
use Rattle.nearest.proofs.whole.Goals as goal
use Rattle.nearest.proofs.whole.Goals.{After-of_pattern-n, Start}

module _ (x : Float) (p : T (fits binary64 x)) (r : in_reach x ≡ true) where
  abbrev b : ℕ
  b = to_bits binary64 x

  finite : is_finite x ≡ true
  finite = reach_finite x r

  low : b % 2 ^ 63 < 1076 * 2 ^ 52
  low = in_reach_lem x p finite (reach_bounds x r).0 (reach_bounds x r).1

  module _ (n : ℕ) (e : pos n ≡ even (pos (magnitude (b % 2 ^ 63))) one) where
    small : n ≤ 2 ^ 53
    small = size-small (b % 2 ^ 63) n low e

    nearest-is : (s : Bool) → leb (2 ^ 63) b ≡ s → nearest x ≡ even (signed s (magnitude (b % 2 ^ 63))) one
    unfolding nearest
    nearest-is s t = ap (λ z. even z one) (read-units x p finite ∙ ap (λ (s : Bool). signed s (magnitude (b % 2 ^ 63))) t)

    up : leb (2 ^ 63) b ≡ false → pos n ≡ nearest x
    up t = e ∙ sym (nearest-is false t)

    down : leb (2 ^ 63) b ≡ true → pos 0 -ℤ pos n ≡ nearest x
    down t = +ℤ_idl (neg_ℤ (pos n)) ∙ ap neg_ℤ e ∙ sym (even_neg (pos (magnitude (b % 2 ^ 63))) one one_pos) ∙ sym (nearest-is true t)

good : (c : Start) → T (fits binary64 c.args.x)
good c = subst T (sym c.well_formed.0.1) tt

held : (c : After-of_pattern-n) → Held w64 c.of_pattern-n.result (pos c.of_pattern-n.result) (2 ^ 53)
held c = cast w64 (small c.args.x (good (goal.at.After-of_pattern-n c).Start) c.requires c.of_pattern-n.result c.of_pattern-n.ensures) tt

pub float_to_bits-b : goal.float_to_bits-b
float_to_bits-b c = not_nan c.args.x (finite c.args.x (good c) c.requires)

pub of_pattern-n-requires : goal.of_pattern-n-requires
of_pattern-n-requires c = low c.args.x (good c) c.requires

pub overflow_cast-n : goal.overflow_cast-n
overflow_cast-n c = sfits (held c).bound tt

pub overflow_sub-result : goal.overflow_sub-result
overflow_sub-result c = fits- (literal w64 (pos 0) tt) (held (goal.at.overflow_sub-result c).After-of_pattern-n) tt

pub returns-then-b-ge9223372036854775808 : goal.returns-then-b-ge9223372036854775808
returns-then-b-ge9223372036854775808 c =
    let s = (goal.at.returns-then-b-ge9223372036854775808 c).Start in
    (less (literal w64 (pos 0) tt) (held (goal.at.returns-then-b-ge9223372036854775808 c).After-of_pattern-n) tt).is
    ∙ down c.args.x (good s) c.requires c.of_pattern-n.result c.of_pattern-n.ensures (le-leb _ _ c.if-b-ge9223372036854775808.true)

pub returns : goal.returns
returns c =
    let s = (goal.at.returns c).Start in
    (held (goal.at.returns c).After-of_pattern-n).is
    ∙ up c.args.x (good s) c.requires c.of_pattern-n.result c.of_pattern-n.ensures (lt-leb _ _ c.if-b-ge9223372036854775808.false)
