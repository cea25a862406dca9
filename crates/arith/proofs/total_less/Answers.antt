use Rattle.std.proofs.Common.{sym, ◌∙◌}
use Rattle.arith.specs.Laws.{total_nan}
use Rattle.arith.proofs.Cases.{total-nan, total-same}
use Rattle.arith.proofs.total_less.Goals as goal

pub returns-then-is_nan : goal.returns-then-is_nan
returns-then-is_nan c =
    let k = c.args in rw c.is_nan-then-is_nan.ensures.value (total-nan k.a k.b (sym c.if-is_nan.ensures.value))

pub returns-then-is_nan-2 : goal.returns-then-is_nan-2
returns-then-is_nan-2 c = let k = c.args in sym (total_nan k.a k.b (sym c.if-is_nan-2.ensures.value))

pub returns : goal.returns
returns c =
    let k = c.args in
    c.is_lt.ensures ∙ rw c.total_cmp.ensures (total-same k.a k.b (sym c.if-is_nan-2.ensures.value) (sym c.if-is_nan.ensures.value))
