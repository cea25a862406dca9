use mir.Val.{bool_byte}
use Rattle.folds.specs.Kit.{◌≡◌, ℕ, ◌≤◌, Bool, true, false, arith}
use Rattle.folds.specs.Fold.{pick}
use Rattle.format.specs.Laws.{choices}
use Rattle.format.specs.Read.{count}
use Rattle.fields.proofs.count.Goals as goal

one : {r : ℕ} (t : Bool) → r ≡ bool_byte t → (r ≡ pick t 1 0) × (r ≤ 4)
unfolding pick
one true e = (e, omega (arith, e))
one false e = (e, omega (arith, e))

pub returns-in-1 : goal.returns-in-1
unfolding count pick
returns-in-1 c = rw c.in-1.is (one _ c.from.ensures)

pub returns-in-2 : goal.returns-in-2
unfolding count pick
returns-in-2 c = rw c.in-2.is c.pairs_in.ensures

pub returns-in-3 : goal.returns-in-3
unfolding count pick
returns-in-3 c = rw c.in-3.is c.pairs_in-in-3.ensures

pub returns-in-4 : goal.returns-in-4
unfolding count pick
returns-in-4 c = rw c.in-4.is c.pairs_in-in-4.ensures

pub returns-in_default : goal.returns-in_default
returns-in_default c = let o = one _ c.from-in_default.ensures in (search choices depth 12, o.1)
