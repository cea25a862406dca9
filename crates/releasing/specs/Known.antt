-- Known values, computed.
use Rattle.std.specs.Prelude.{◌≡◌, refl, true, false, Some, None}
use Rattle.std.specs.Float.Ieee.{lt, eq, is_nan, of_bits}
use Rattle.folds.specs.Fold.{pick, both}
use Rattle.folds.specs.Best.{better}
use Rattle.arith.specs.Float.{f1, f2}
use Rattle.arith.specs.Scalar.{total_less, negative}
use Rattle.releasing.specs.declared.Outcome.TheVariants.{Enter, Answer, NotConverged}
use Rattle.releasing.specs.Release.{offered, at_least, outcome}

-- the last of equal rates, the larger of two, and none that is refused
of-better : (better at_least (Some (f1, 0, 0)) (Some (f1, 5, 1)) ≡ Some (f1, 5, 1))
    × (better at_least (Some (f2, 0, 0)) (Some (f1, 5, 1)) ≡ Some (f2, 0, 0))
    × (offered true (Some (f2, 1)) 5 ≡ None)
unfolding better offered total_less pick both lt eq is_nan negative of_bits
of-better = (refl, refl, refl)

-- with nobody entering, one that is refused tells a stop from the answer
of-outcome : (outcome (Some (f1, 5, 1)) true ≡ Enter 5 1) × (outcome None true ≡ NotConverged) × (outcome None false ≡ Answer)
unfolding outcome pick
of-outcome = (refl, refl, refl)
