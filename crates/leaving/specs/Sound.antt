-- From a factor whose pivots pass the floor or are NaN, `leaving` gives one of that kind: no joining divides by an older pivot that is 0.
use Rattle.std.specs.Prelude.{◌≡◌, Bool, List, ℕ, ◌+◌, ◌-◌, ◌<◌, ◌≤◌, length, set}
use Rattle.std.proofs.Math.Path.{refl}
use Rattle.std.proofs.Math.Bool.{true, false}
use native.Mathlib.Omega.{arith}
use Rattle.std.proofs.Math.ListN.{length-set}
use Rattle.folds.specs.Fold.{fold_keep, pick, pick_keep}
use Rattle.folds.specs.Marks.{marked, place, place-left}
use Rattle.sizes.specs.Sizes as Sizes
use Rattle.cholesky.specs.Pivots.{Sounds}
use Rattle.triangular.specs.Triangular.{regular}
use Rattle.triangular.specs.Pivots.{sounds_regular}
use Rattle.update.specs.Leaving.{removed-sound}
use Rattle.leaving.specs.Held.{Held, left, leave_one, leaving}

pub record Fine (o : ℕ) (s : Held) : Type 0 where
  pub wide : length s.marks ≡ Sizes.originals
  pub sound : Sounds (place s.marks o) s.factor

module _ (o : ℕ) (few : o ≤ Sizes.originals) where
  left_fine : (i : ℕ) (s : Held) → i < o → marked s.marks i ≡ true → Fine o s → Fine o (left o i s)
  unfolding left
  left_fine i s h e f =
      let w : place s.marks o ≡ place (set s.marks i false) o + 1 = place-left s.marks i o h (omega (arith, f.wide)) e in
      let z : place (set s.marks i false) o ≡ place s.marks o - 1 = omega arith in
      record {
        wide = simp length-set f.wide;
        sound = rw z (removed-sound (place s.marks o) (place s.marks i) s.factor (omega arith) f.sound);
      }

  one_fine : (want : List Bool) (i : ℕ) (s : Held) → i < o → Fine o s → Fine o (leave_one o want i s)
  unfolding leave_one
  one_fine want i s h f = go (marked s.marks i) refl
    where
      go : (b : Bool) → marked s.marks i ≡ b → Fine o (pick b (pick (marked want i) s (left o i s)) s)
      go true e = unfold pick in pick_keep (Fine o) (marked want i) {x = s} {y = left o i s} f (left_fine i s h e f)
      go false e = unfold pick in f

  pub leaving_fine : (want : List Bool) (s : Held) → Fine o s → Fine o (leaving o want s)
  unfolding leaving
  leaving_fine want s f = fold_keep (Fine o) o (λ t. leave_one o want (o - 1 - t)) s f (λ t x l q. one_fine want (o - 1 - t) x (omega arith) q)

  -- what joins divides by the pivots of those that stay, and none is 0
  pub leaving-regular : (want : List Bool) (s : Held) → Fine o s → regular (leaving o want s).factor (place (leaving o want s).marks o) ≡ true
  leaving-regular want s f = sounds_regular (place (leaving o want s).marks o) (leaving o want s).factor (leaving_fine want s f).sound
