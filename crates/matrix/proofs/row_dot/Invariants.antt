use Rattle.std.proofs.Common.{◌≡◌}
use Rattle.matrix.specs.Matrix.{row_dot}
use Rattle.matrix.proofs.row_dot.Given as goal

abbrev pub invariant-loop-j : goal.invariant-loop-j
invariant-loop-j l = l.s ≡ row_dot l.n l.j l.a l.i l.x
