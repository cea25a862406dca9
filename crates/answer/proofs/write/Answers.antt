use borrow.Author.Tests.{leb-true, leb-false}
use mathlib.Core.Bool.{Bool, true}
use Rattle.folds.specs.Kit.{◌≡◌, ℕ, refl, sym, ap, ◌∙◌, ◌+◌, ◌*◌, ◌≤◌, length, arith}
use Rattle.std.specs.Prelude.{leb}
use mir.Syntax.{w64}
use Rattle.ints.specs.Held.{param}
use Rattle.answer.specs.File.{answer_of, bytes, code, field, file_size}
use Rattle.answer.specs.Pasted.{pasted, too_small, file-written}
use Rattle.answer.proofs.write.Goals as goal

-- what `has_room` promises of a slice that is large enough
large : (a b n : ℕ) {r : Bool} → r ≡ leb (file_size a b) n → r ≡ true → file_size a b ≤ n
large a b n e t = leb-true _ _ (sym e ∙ t)

room : (a b n : ℕ) {r : Bool} → r ≡ leb (file_size a b) n → r ≡ true → 22 + 4 * a + 8 * b ≤ n
unfolding file_size
room a b n e t = large a b n e t

pub returns-then-not-has_room : goal.returns-then-not-has_room
returns-then-not-has_room c =
    too_small (answer_of c.args.times.now c.args.prices.now c.args.gap c.args.passes) c.args.out.now
    (leb-false _ _ (sym c.has_room.ensures ∙ c.if-not-has_room.true))

pub numbers_field-requires : goal.numbers_field-requires
numbers_field-requires c =
    omega (arith, room _ _ _ c.has_room.ensures c.if-not-has_room.false)

pub numbers_field-requires-2 : goal.numbers_field-requires-2
numbers_field-requires-2 c =
    omega (arith, room _ _ _ c.has_room.ensures c.if-not-has_room.false)

pub number_field-requires : goal.number_field-requires
number_field-requires c = omega (arith, room _ _ _ c.has_room.ensures c.if-not-has_room.false)

pub overflow_add-end-3 : goal.overflow_add-end-3
overflow_add-end-3 c = omega (arith, room _ _ _ c.has_room.ensures c.if-not-has_room.false)

pub number_field-requires-2 : goal.number_field-requires-2
number_field-requires-2 c = omega (arith, room _ _ _ c.has_room.ensures c.if-not-has_room.false)

pub returns : goal.returns
returns c =
    let p : ℕ = 3 + 4 * length c.args.times.now in
    let q : ℕ = p + 3 + 8 * length c.args.prices.now in
    file-written (answer_of c.args.times.now c.args.prices.now c.args.gap c.args.passes) c.args.out.now p q (q + 11)
    (large _ _ _ c.has_room.ensures c.if-not-has_room.false) refl refl refl
    c.numbers_field.ensures
    c.numbers_field-2.ensures
    (c.number_field.ensures
    ∙ ap (λ (n : ℕ). pasted q (field 19 (bytes 8 n)) c.numbers_field-2.new.out)
    (c.code.ensures ∙ ap (code 9223372036854775808) (param w64 c.ranges.gap).is))
    c.number_field-2.ensures
