use Rattle.folds.specs.Kit.{◌≡◌, ◌-◌, ◌≤◌, arith, length, rules, span, spans, span_call}
use Rattle.folds.specs.Part.{two}
use Rattle.rank_one.specs.RankOne.{rank_one, rank_column}
use Rattle.rank_one.proofs.rank_one.Given as goal

abbrev pub invariant-loop-j : goal.invariant-loop-j
invariant-loop-j l = (l.p ≤ l.j) × (l.j ≤ l.n) × (length l.l ≡ length l.initial.l) × (length l.v ≡ length l.initial.v) × (two l.l l.v ≡ span l.p l.j (rank_column l.n l.s) (two l.initial.l l.initial.v))
