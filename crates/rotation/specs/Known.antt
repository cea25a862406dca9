-- Known values, computed.
use Rattle.std.specs.Prelude.{◌≡◌, refl, [], ◌∷◌, Float}
use Rattle.std.specs.Float.{binary64}
use Rattle.std.specs.Float.Ieee.{neg, add, sub, mul, div, eq, lt, is_nan, of_int, of_bits}
use Rattle.folds.specs.Fold.{fold, pick}
use Rattle.folds.specs.Part.{two}
use Rattle.root.specs.Root.{root}
use Rattle.arith.specs.Float.{f0, f1, fromℕ}
use Rattle.arith.specs.Scalar.{abs, signum, negative}
use Rattle.angle.specs.Angle.{tangent, turn_by, angle}
use Rattle.rotation.specs.Rotation.{turn_in_row, turn_in_column, turn_columns, turn_rows, turned, rotate}

-- 1 / √2 in f64
abbrev pub half : Float
half = of_bits binary64 0x3fe6_a09e_667f_3bcc

-- the rotation of (2 1; 1 2)
of-rotate : rotate 2 0 1 (two (fromℕ 2 ∷ f1 ∷ f1 ∷ fromℕ 2 ∷ []) (f1 ∷ f0 ∷ f0 ∷ f1 ∷ []))
    ≡ two (of_bits binary64 0x3fef_ffff_ffff_fffe ∷ f0 ∷ f0 ∷ of_bits binary64 0x4007_ffff_ffff_ffff ∷ []) (half ∷ neg half ∷ half ∷ half ∷ [])
unfolding rotate angle tangent turn_by turned turn_columns turn_rows turn_in_row turn_in_column fold pick abs signum negative add sub mul div neg eq lt is_nan
    root of_int of_bits
of-rotate = refl

-- a zero entry is skipped
of_skip : rotate 2 0 1 (two (f1 ∷ f0 ∷ f0 ∷ fromℕ 2 ∷ []) (f1 ∷ f0 ∷ f0 ∷ f1 ∷ [])) ≡ two (f1 ∷ f0 ∷ f0 ∷ fromℕ 2 ∷ []) (f1 ∷ f0 ∷ f0 ∷ f1 ∷ [])
unfolding rotate angle tangent turn_by turned turn_columns turn_rows turn_in_row turn_in_column fold pick abs signum negative add sub mul div neg eq lt is_nan
    root of_int of_bits
of_skip = refl
