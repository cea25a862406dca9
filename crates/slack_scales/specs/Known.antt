-- Known values, computed: scales of a row with an entry of 0, and of a row of zeros.
use Rattle.std.specs.Prelude.{◌≡◌, refl, [], ◌∷◌}
use Rattle.std.specs.Float.Ieee.{neg, div, eq, lt, is_nan, of_int, of_bits}
use Rattle.folds.specs.Fold.{fold, pick}
use Rattle.arith.specs.Float.{f0, f1, fromℕ}
use Rattle.arith.specs.Scalar.{abs, min, is_finite}
use Rattle.units.specs.Units.{scale_or1}
use Rattle.slack_scales.specs.SlackScales.{smaller, smallest, slack_scale}

of-scale : slack_scale 3 (fromℕ 4 ∷ fromℕ 6 ∷ f1 ∷ []) (f1 ∷ neg (fromℕ 3) ∷ f0 ∷ []) ≡ fromℕ 2
unfolding slack_scale smallest smaller scale_or1 fold pick abs min is_finite eq lt is_nan neg div of_int of_bits
of-scale = refl

of_zeros : slack_scale 2 (fromℕ 4 ∷ fromℕ 6 ∷ []) (f0 ∷ f0 ∷ []) ≡ f1
unfolding slack_scale smallest smaller scale_or1 fold pick eq is_finite of_int of_bits
of_zeros = refl
