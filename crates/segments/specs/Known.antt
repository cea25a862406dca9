-- Known values, computed: the range 0..100 with a kink at 40 of slope 1, and with one at its lower bound.
use Rattle.std.specs.Prelude.{◌≡◌, refl, true, false, [], ◌∷◌}
use Rattle.std.specs.Float.{nan}
use Rattle.std.specs.Float.Ieee.{neg, lt, le, eq, of_int, of_bits}
use Rattle.folds.specs.Fold.{fold, pick, both, some}
use Rattle.folds.specs.Position.{position}
use Rattle.arith.specs.Float.{f0, f1, fromℕ}
use Rattle.segments.specs.declared.Segments.{Segments}
use Rattle.segments.specs.declared.State.TheVariants.{At, Free}
use Rattle.segments.specs.Segments.{cuts, side, new}
use Rattle.segments.specs.Start.{fixed, below, inside, place}
use Rattle.segments.specs.Freeing.{freed, free_one}

of-cut : new f0 (fromℕ 100) (fromℕ 40) f1 ≡ record { points = f0 ∷ fromℕ 40 ∷ fromℕ 100 ∷ []; slopes = neg f1 ∷ f1 ∷ []; count = 3 }
unfolding new cuts side pick both lt le neg of_int of_bits
of-cut = refl

of-bound : new f0 (fromℕ 100) f0 f1 ≡ record { points = f0 ∷ fromℕ 100 ∷ f0 ∷ []; slopes = f1 ∷ f0 ∷ []; count = 2 }
unfolding new cuts side pick both lt le neg of_int of_bits
of-bound = refl

-- at the kink, past it, and at NaN, which lies at no point and past none
abbrev cut : Segments
cut = new f0 (fromℕ 100) (fromℕ 40) f1

of-place : (place cut (fromℕ 40) ≡ At 1)
    × (place cut (fromℕ 70) ≡ Free 1)
    × (place cut nan ≡ Free 0)
    × (place cut (fromℕ 100) ≡ At 2)
unfolding place inside below fixed position some fold new cuts side pick both lt le eq neg of_int of_bits
of-place = (refl, refl, refl, refl)

-- freed: held at the upper bound it goes down into the last segment, held at the kink up, and one that is fixed stays
of-freed : (free_one false (At 2) cut ≡ Free 1)
    × (free_one false (At 1) cut ≡ Free 1)
    × (free_one false (At 0) cut ≡ Free 0)
    × (free_one true (At 2) cut ≡ At 2)
unfolding free_one freed new cuts side pick both lt le neg of_int of_bits
of-freed = (refl, refl, refl, refl)
