use Rattle.folds.specs.Kit.{◌≡◌, ◌+◌, ◌-◌, ◌≤◌, arith, length, rules, span, spans, span_call}
use Rattle.folds.specs.Part.{two}
use Rattle.rank_one.specs.RankOne.{rank_row, rank_rows}
use Rattle.rank_one.proofs.rank_rows.Given as goal

abbrev pub invariant-loop-i : goal.invariant-loop-i
invariant-loop-i l = (l.j + 1 ≤ l.i) × (l.i ≤ l.n) × (length l.l ≡ length l.initial.l) × (length l.v ≡ length l.initial.v) × (two l.l l.v ≡ span (l.j + 1) l.i (rank_row l.n l.j l.s l.t l.c) (two l.initial.l l.initial.v))
