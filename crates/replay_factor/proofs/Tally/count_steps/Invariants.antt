use Rattle.std.proofs.Common.{length, ◌≡◌}
use Rattle.factoring.specs.Kept.{Good}
use Rattle.replay_factor.proofs.Tally.count_steps.Given as goal

abbrev pub invariant-loop : goal.invariant-loop
invariant-loop l = record { room : length l.l ≡ 1024; good : Good l.matrix.originals l.kept l.l }
