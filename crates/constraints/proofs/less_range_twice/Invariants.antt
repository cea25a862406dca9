use Rattle.folds.specs.Kit.{◌≡◌, ◌≤◌, length, fold}
use Rattle.constraints.specs.Constraints.{less_range}
use Rattle.constraints.proofs.less_range_twice.Given as goal

abbrev pub invariant-loop : goal.invariant-loop
invariant-loop l = (l.counter ≤ 2) × (length l.null ≡ length l.initial.null) × (length l.part ≡ length l.initial.part) × (length l.spanned ≡ length l.initial.spanned) ×
    (l.null ≡ fold l.counter (λ _. less_range l.n l.rank l.d l.range) l.initial.null)
