-- Known values, computed.
use Rattle.std.specs.Prelude.{◌≡◌, refl, true, false, [], ◌∷◌}
use Rattle.std.specs.Float.Ieee.{neg, add, sub, mul, div, eq, lt, of_int, of_bits}
use Rattle.folds.specs.Fold.{fold, span, pick, all, tab, over}
use Rattle.folds.specs.Part.{part, with_part, on_part, with_out, on_part_out, two}
use Rattle.root.specs.Root.{root}
use Rattle.arith.specs.Float.{f0, f1, fneg, fromℕ}
use Rattle.reductions.specs.Reductions.{dot, sum_squares, norm}
use Rattle.vector.specs.Vector.{sub_scaled}
use Rattle.householder.specs.Householder.{factor, reflect, reflect_columns, zero_column, opposite, reflector, from_diagonal, reflect_rest, qr_column}
use Rattle.householder.specs.Householder.{mark, qr_step, qr, q_tr_step, q_tr_mul}

-- (3, 4) has the norm 5 and the vector (8, 4), which takes (5, 5) to (-7, -1); then -1 has the vector -1 - 1
of-qr : qr 2 2 (two (fromℕ 3 ∷ fromℕ 4 ∷ fromℕ 5 ∷ fromℕ 5 ∷ []) (false ∷ false ∷ []))
    ≡ two (fromℕ 8 ∷ fromℕ 4 ∷ fneg (fromℕ 7) ∷ fneg (fromℕ 2) ∷ []) (true ∷ true ∷ [])
unfolding qr qr_step mark qr_column reflect_rest from_diagonal reflector opposite zero_column reflect_columns reflect factor part with_part on_part with_out
    on_part_out dot norm sum_squares sub_scaled fold span pick all tab over add sub mul div neg eq lt root of_int of_bits
of-qr = refl

-- a zero column makes no reflection
of-zero : qr 2 2 (two (f0 ∷ fneg f0 ∷ f1 ∷ fromℕ 2 ∷ []) (true ∷ false ∷ [])) ≡ two (f0 ∷ fneg f0 ∷ f1 ∷ fromℕ 4 ∷ []) (false ∷ true ∷ [])
unfolding qr qr_step mark qr_column reflect_rest from_diagonal reflector opposite zero_column reflect_columns reflect factor part with_part on_part with_out
    on_part_out dot norm sum_squares sub_scaled fold span pick all tab over add sub mul div neg eq lt root of_int of_bits
of-zero = refl

-- -0 counts as positive: (-0, 1) has the vector (1, 1)
of_lead : qr 2 1 (two (fneg f0 ∷ f1 ∷ []) (false ∷ [])) ≡ two (f1 ∷ f1 ∷ []) (true ∷ [])
unfolding qr qr_step mark qr_column reflect_rest from_diagonal reflector opposite zero_column reflect_columns reflect factor part with_part on_part with_out
    on_part_out dot norm sum_squares sub_scaled fold span pick all tab over add sub mul div neg eq lt root of_int of_bits
of_lead = refl

-- and that vector takes (1, 0) to (0, -1) and (0, 1) to (-1, 0)
of-q_tr_mul : q_tr_mul 2 1 (f1 ∷ f1 ∷ []) (true ∷ []) 2 (f1 ∷ f0 ∷ f0 ∷ f1 ∷ []) ≡ f0 ∷ fneg f1 ∷ fneg f1 ∷ f0 ∷ []
unfolding q_tr_mul q_tr_step from_diagonal reflect_columns reflect factor part with_part on_part dot sub_scaled fold span pick tab over add sub mul div neg
    of_int of_bits
of-q_tr_mul = refl
