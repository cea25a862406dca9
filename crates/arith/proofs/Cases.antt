-- The library's words for f64 are this crate's, value by value.
use Rattle.std.specs.Prelude.{◌≡◌, refl, Bool, true, false, cond, not, Float}
use Rattle.std.specs.Float.{nan, inf, fin, float_signum, is_sign_negative, total_cmp}
use Rattle.std.specs.Float.Ieee.{is_nan, lt, eq, of_bits, neg}
use Rattle.std.specs.Ordering.{is_lt}
use Rattle.std.proofs.Common.{sym, ◌∙◌, Less, Equal, Greater}
use Rattle.folds.specs.Fold.{pick, both, false_of, false_true}
use Rattle.arith.specs.Compare.{eq-not, eq-lt}
use Rattle.arith.specs.Scalar.{negative, signum, total_less}

pub sign-same : (x : Float) → is_sign_negative x ≡ negative x
unfolding is_sign_negative negative
sign-same nan = refl
sign-same (inf s) = refl
sign-same (fin s m e) = refl

pub negative-nan : (x : Float) → is_nan x ≡ true → false ≡ negative x
unfolding negative is_nan
negative-nan nan p = refl
negative-nan (inf s) p = absurd (false_true p)
negative-nan (fin s m e) p = absurd (false_true p)

pub signum-same : (x : Float) → float_signum x ≡ signum x
unfolding float_signum signum is_nan negative pick of_bits neg
signum-same nan = refl
signum-same (inf true) = refl
signum-same (inf false) = refl
signum-same (fin true m e) = refl
signum-same (fin false m e) = refl

-- ---- the total order
signs : (s t : Bool) → is_lt (cond s (cond t Equal Less) (cond t Greater Equal)) ≡ both s (not t)
unfolding both
signs true true = refl
signs true false = refl
signs false true = refl
signs false false = refl

decide : {P : Type 0} (t : Bool) → (t ≡ true → P) → (t ≡ false → P) → P
decide true f g = f refl
decide false f g = g refl

-- against a NaN
pub total-nan : (a b : Float) → is_nan b ≡ true → not (is_nan a) ≡ total_less a b
unfolding total_less pick
total-nan a b h = rw h (go (is_nan a))
  where
    go : (t : Bool) → not t ≡ pick t false true
    go true = refl
    go false = refl

pub total-same : (a b : Float) → is_nan a ≡ false → is_nan b ≡ false → is_lt (total_cmp a b) ≡ total_less a b
unfolding total_less pick both
total-same a b h k =
    decide (lt a b) (λ l. rw (h, k, l)) (λ l.
    decide (lt b a)
    (λ g. let e : eq a b ≡ false = false_of (eq a b) (λ q. false_true (sym (eq-lt a b q).1 ∙ g)) in rw (h, k, l, g, e))
    (λ g. rw (h, k, l, g, eq-not a b h k l g, sign-same a, sign-same b) (signs (negative a) (negative b))))
