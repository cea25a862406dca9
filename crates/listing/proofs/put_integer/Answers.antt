use mathlib.Core.Path.{◌≡◌, sym, ◌∙◌, ap}
use Prim.Native.Nat.{ℕ, ◌+◌}
use native.Mathlib.Omega.{arith}
use lib.IntN.{ℤ, pos, negsuc, nat_abs}
use lib.ListN.{length, length-set}
use lib.Signed.{◌≤ℤ◌, ◌<ℤ◌, mag}
use mir.Syntax.{w64}
use Rattle.std.proofs.Common.{add-one, not-suc-le-zero, ltb→lt}
use Rattle.ints.specs.Held.{param, literal, when<, unless<}
use Rattle.listing.specs.Listing.{decimal, integer}
use Rattle.listing.specs.Appended.{room_as, appended_as}
use Rattle.listing.specs.Laws.{integer-from, room-sign, room-size, signed-written}
use Rattle.listing.proofs.put_integer.Goals as goal
use Rattle.listing.proofs.put_integer.Goals.{Else-z-lt0, Then-z-lt0, After-unsigned_abs, After-unsigned_abs-2}

size-below : (z : ℤ) → z <ℤ pos 0 → nat_abs z ≡ mag z + 1
size-below (pos n) h = absurd (not-suc-le-zero (ltb→lt n 0 h.lt))
size-below (negsuc n) h = sym (add-one n)

-- ---- below 0
negative : (c : Then-z-lt0) → c.args.z <ℤ pos 0
negative c = when< (param w64 c.ranges.z) (literal w64 (pos 0) tt) c.if-z-lt0.true

size : (c : After-unsigned_abs) → c.unsigned_abs.result ≡ mag c.args.z + 1
size c =
    c.unsigned_abs.ensures.value ∙ ap nat_abs (param w64 c.ranges.z).is
    ∙ size-below c.args.z (negative (goal.at.After-unsigned_abs c).Then-z-lt0)

-- ---- from 0 up
from : (c : Else-z-lt0) → pos 0 ≤ℤ c.args.z
from c = unless< (param w64 c.ranges.z) (literal w64 (pos 0) tt) c.if-z-lt0.false

same : (c : After-unsigned_abs-2) → integer c.args.z ≡ decimal c.unsigned_abs-2.result
same c =
    (integer-from c.args.z (from (goal.at.After-unsigned_abs-2 c).Else-z-lt0)).1
    ∙ sym (ap decimal (c.unsigned_abs-2.ensures.value ∙ ap nat_abs (param w64 c.ranges.z).is))

pub bounds-out-at : goal.bounds-out-at
bounds-out-at c = room-sign c.requires (negative (goal.at.bounds-out-at c).Then-z-lt0)

pub overflow_add-at : goal.overflow_add-at
overflow_add-at c = record { fits = omega (arith, room-sign c.requires (negative (goal.at.overflow_add-at c).Then-z-lt0)) }

pub put_decimal-requires : goal.put_decimal-requires
put_decimal-requires c =
    let e = (goal.at.put_decimal-requires c).Then-z-lt0 in
    let s = size (goal.at.put_decimal-requires c).After-unsigned_abs in
    record { fits = simp length-set (omega (arith, room-size c.requires (negative e), ap (λ (n : ℕ). length (decimal n)) s)) }

pub shape_of-out-then-z-lt0 : goal.shape_of-out-then-z-lt0
shape_of-out-then-z-lt0 c = c.put_decimal.auto.out ∙ simp length-set

pub returns-then-z-lt0 : goal.returns-then-z-lt0
returns-then-z-lt0 c =
    let e = (goal.at.returns-then-z-lt0 c).Then-z-lt0 in
    signed-written c.requires (negative e) (appended_as (ap decimal (size (goal.at.returns-then-z-lt0 c).After-unsigned_abs)) c.put_decimal.ensures)

pub put_decimal-requires-2 : goal.put_decimal-requires-2
put_decimal-requires-2 c = room_as (same (goal.at.put_decimal-requires-2 c).After-unsigned_abs-2) c.requires

pub returns : goal.returns
returns c = appended_as (sym (same (goal.at.returns c).After-unsigned_abs-2)) c.put_decimal-2.ensures
