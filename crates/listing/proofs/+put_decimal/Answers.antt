use native.Mathlib.Omega.{arith}
use native.Mathlib.Nat.{div-add-mod}
use Rattle.listing.specs.Laws.{room-digit, only_digit, room-digits, room-last, last-digit}
use Rattle.listing.proofs.+put_decimal.Goals as goal

pub bounds-out-at : goal.bounds-out-at
bounds-out-at t c = room-digit c.requires c.if-n-lt10.true

pub returns-then-n-lt10 : goal.returns-then-n-lt10
returns-then-n-lt10 t c = only_digit c.requires c.if-n-lt10.true

pub put_decimal-end-requires : goal.put_decimal-end-requires
put_decimal-end-requires t c = (omega (arith, c.if-n-lt10.false, div-add-mod c.args.n 10), room-digits c.requires c.if-n-lt10.false)

pub bounds-out-end : goal.bounds-out-end
bounds-out-end t c = room-last c.requires c.if-n-lt10.false c.put_decimal-end.ensures

pub overflow_add-result-2 : goal.overflow_add-result-2
overflow_add-result-2 t c = record { fits = omega (arith, room-last c.requires c.if-n-lt10.false c.put_decimal-end.ensures) }

pub returns : goal.returns
returns t c = last-digit c.requires c.if-n-lt10.false c.put_decimal-end.ensures
