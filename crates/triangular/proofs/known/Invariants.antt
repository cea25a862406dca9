use Rattle.std.proofs.Common.{◌≡◌}
use Rattle.triangular.specs.Triangular.{known}
use Rattle.triangular.proofs.known.Given as goal

abbrev pub invariant-loop-j : goal.invariant-loop-j
invariant-loop-j l = l.s ≡ known l.j l.l l.n l.i l.x
