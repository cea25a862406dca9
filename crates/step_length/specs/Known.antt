-- Known values, computed.
use Rattle.std.specs.Prelude.{◌≡◌, refl, false, Some, None}
use Rattle.std.specs.Float.{inf}
use Rattle.std.specs.Float.Ieee.{neg, sub, div, lt, eq, is_nan, of_bits}
use Rattle.folds.specs.Fold.{fold, pick, both}
use Rattle.folds.specs.Best.{better, best_of, first_least}
use Rattle.arith.specs.Float.{f0, f1, f2}
use Rattle.arith.specs.Scalar.{total_less, is_finite, negative}
use Rattle.step_length.specs.declared.Side.TheVariants.{Lower}
use Rattle.step_length.specs.StepLength.{shorter, moves_down, moves_up, end_reached}

-- the first of equal steps
of-least : first_least shorter 2 (λ k. Some (f1, k, Lower)) ≡ Some (f1, 0, Lower)
unfolding first_least best_of better fold total_less pick both lt eq is_nan negative of_bits
of-least = refl

-- towards a finite end, and towards an infinite one
of-reached : (end_reached f2 (neg f1) f0 (inf false) f0 5 ≡ Some (f2, 5, Lower)) × (end_reached f2 f1 f0 (inf false) f0 5 ≡ None)
unfolding end_reached moves_down moves_up pick both lt neg sub div is_finite of_bits
of-reached = (refl, refl)
