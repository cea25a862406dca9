-- The middle of two ends, low + (high - low) / 2, is no NaN and not below zero, where low is from +0 up and below high. An infinite high has an
-- infinite middle.
use Rattle.std.specs.Prelude.{◌≡◌, ℕ, zero, suc, ◌+◌, ◌-◌, ◌*◌, ◌/◌, ◌%◌, ◌^◌, ◌<◌, Bool, true, false, cond, T, ℤ, pos, nat_lt, refl, Float}
use Rattle.std.proofs.Common.{sym, subst, le_of_lt, le-ltb}
use Prim.Native.Nat.{compare}
use Rattle.std.specs.Float.{nan, inf, fin, Format, binary64}
use Rattle.std.specs.Float.Ieee.{prec, low, up, down, size, nearest, odd, units, round, neg, sum, add, sub, div, fits, lt}
use Rattle.std.specs.Float.Ieee.Fits.{add-fits}
use Rattle.std.specs.Float.Ieee.Scale.{overflow}
use Rattle.arith.specs.Order.{upward, upward-above, inf_last, cross}
use Rattle.arith.specs.Double.{two-is}
use Rattle.arith.specs.Float.{f2, fadd, fsub, fdiv}

-- ---- what `round` makes of a fraction, the sign clear
odd_upward : (d q k l : ℕ) → T (upward (odd d false q k l))
unfolding odd
odd_upward d zero k l = tt
odd_upward d (suc q) k l = tt

units-upward : (f : Format) (q k : ℕ) → T (upward (units f false q k))
unfolding units
units-upward f q k = go (nat_lt (q * 2 ^ k) (overflow f))
  where
    go : (b : Bool) → T (upward (cond b (odd (suc (prec f)) false q k (low f)) (inf false)))
    go true = odd_upward (suc (prec f)) q k (low f)
    go false = tt

pub round_upward : (f : Format) (a b : ℕ) → T (upward (round f false a b))
unfolding round
round_upward f a b =
    units-upward f (nearest (a * 2 ^ low f / (b * 2 ^ k)) (compare (a * 2 ^ low f % (b * 2 ^ k) * 2) (b * 2 ^ k))) k
  where
    k : ℕ
    k = size (a * 2 ^ low f / b) - prec f

-- ---- sums, differences and halves
pub add-upward : (f : Format) (x y : Float) → T (upward x) → T (upward y) → T (upward (add f x y))
unfolding add sum
add-upward f nan y u v = absurd u
add-upward f (inf true) y u v = absurd u
add-upward f (inf false) nan u v = absurd v
add-upward f (inf false) (inf true) u v = absurd v
add-upward f (inf false) (inf false) u v = tt
add-upward f (inf false) (fin t n d) u v = tt
add-upward f (fin true m e) y u v = absurd u
add-upward f (fin false m e) nan u v = absurd v
add-upward f (fin false m e) (inf true) u v = absurd v
add-upward f (fin false m e) (inf false) u v = tt
add-upward f (fin false m e) (fin true n d) u v = absurd v
add-upward f (fin false m e) (fin false n d) u v = round_upward f (m * up e * down d + n * up d * down e) (down e * down d)

gap : (f : Format) (a b c : ℕ) → b < a → T (upward (cond (nat_lt a b) (round f true (b - a) c) (round f false (a - b) c)))
gap f a b c h = rw (le-ltb a b (le_of_lt h)) (round_upward f (a - b) c)

sub_fins : (f : Format) (m : ℕ) (e : ℤ) (n : ℕ) (d : ℤ) → m * up e * down d < n * up d * down e → T (upward (sub f (fin false n d) (fin false m e)))
unfolding sub add neg sum
sub_fins f m e n d h = gap f (n * up d * down e) (m * up e * down d) (down d * down e) h

sub_inf : (f : Format) (m : ℕ) (e : ℤ) → T (upward (sub f (inf false) (fin false m e)))
unfolding sub add neg
sub_inf f m e = tt

-- high - low for a low below high
pub sub-upward : (f : Format) (x y : Float) → T (upward x) → lt x y ≡ true → T (upward (sub f y x))
sub-upward f x y u h = go x y u (upward-above x y u h) h
  where
    go : (x y : Float) → T (upward x) → T (upward y) → lt x y ≡ true → T (upward (sub f y x))
    go nan y u v h = absurd u
    go (inf true) y u v h = absurd u
    go (inf false) y u v h = absurd (inf_last y h)
    go (fin true m e) y u v h = absurd u
    go (fin false m e) nan u v h = absurd v
    go (fin false m e) (inf true) u v h = absurd v
    go (fin false m e) (inf false) u v h = sub_inf f m e
    go (fin false m e) (fin true n d) u v h = absurd v
    go (fin false m e) (fin false n d) u v h = sub_fins f m e n d (cross m e n d h)

halved : (x : Float) → T (upward x) → T (upward (fdiv x (fin false 1 (pos 1))))
unfolding div
halved nan u = absurd u
halved (inf true) u = absurd u
halved (inf false) u = tt
halved (fin true m e) u = absurd u
halved (fin false m e) u = round_upward binary64 (m * up e * down (pos 1)) (1 * up (pos 1) * down e)

pub half-upward : (x : Float) → T (upward x) → T (upward (fdiv x f2))
half-upward x u = subst (λ (t : Float). T (upward (fdiv x t))) (sym two-is) (halved x u)

-- ---- the middle
unfoldable pub middle : (a b : Float) → Float
middle a b = fadd a (fdiv (fsub b a) f2)

pub middle-is : (a b : Float) → fadd a (fdiv (fsub b a) f2) ≡ middle a b
unfolding middle
middle-is a b = refl

pub middle-upward : (a b : Float) → T (upward a) → lt a b ≡ true → T (upward (middle a b))
unfolding middle
middle-upward a b u h = add-upward binary64 a (fdiv (fsub b a) f2) u (half-upward (fsub b a) (sub-upward binary64 a b u h))

pub middle-fits : (a b : Float) → T (fits binary64 (middle a b))
unfolding middle
middle-fits a b = add-fits binary64 a (fdiv (fsub b a) f2)
