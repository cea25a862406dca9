-- Laws of the definitions: what the code's record holds, and every call keeps `Good`. So no pivot that is divided by is 0.
use Rattle.std.specs.Prelude.{◌≡◌, Bool, List, ℕ, ◌≤◌, length, Float}
use Rattle.std.proofs.Math.Path.{refl}
use Rattle.std.proofs.Common.{sym, ◌∙◌}
use Rattle.std.proofs.Math.Bool.{true, false}
use Rattle.std.proofs.Math.Option.{Option, none, some, some-injective, none-ne-some}
use Rattle.folds.specs.Fold.{over, pick_keep, false_true, Out, out}
use Rattle.sizes.specs.Sizes as Sizes
use Rattle.cholesky.specs.Cholesky.{cholesky, positive_definite}
use Rattle.cholesky.specs.Pivots.{Sounds, definite_sounds}
use Rattle.triangular.specs.Triangular.{regular}
use Rattle.triangular.specs.Pivots.{sounds_regular}
use Rattle.variable_set.specs.Rising.{Rising}
use Rattle.factor_update.specs.Sound.{updated-sound}
use Rattle.factoring.specs.Kept.{Kept, Factor, factor, new, reset, with_factor, with_singular, submatrix, passing, definite, fresh, kept}
use Rattle.factoring.specs.Kept.{contains_singular, afresh, last_updated, settled, update, list_of, option_of, kept_of}
use Rattle.factoring.specs.Kept.{Sound, Good}
use Rattle.factoring.specs.declared.Factoring.{Factoring}

-- ---- what the code's record holds
pub some_listed : {there : Bool} (s : List Bool) → there ≡ true → option_of there s ≡ some (list_of s)
unfolding option_of
some_listed s e = rw e

pub none_listed : {there : Bool} (s : List Bool) → there ≡ false → option_of there s ≡ none
unfolding option_of
none_listed s e = rw e

pub held-is : (f : Factoring) → (kept_of f).held ≡ option_of f.factored f.held
unfolding kept_of
held-is f = refl

-- ---- what every call keeps
module _ (o : ℕ) where
  pub good-rises : (f : Factoring) {l : List Float} → Good o f l → f.factored ≡ true → Rising o (list_of f.held)
  good-rises f g e = g.rises _ (held-is f ∙ some_listed f.held e)

  nothing-held : (f : Kept) (l : List Float) → f.held ≡ none → Sound o f l
  nothing-held f l e = record {
    rises = λ s z. absurd (none-ne-some s (sym e ∙ z));
    pivots = λ s z. absurd (none-ne-some s (sym e ∙ z));
  }

  pub good-new : (f : Factoring) (l : List Float) → kept_of f ≡ new → Good o f l
  unfolding new
  good-new f l e = nothing-held (kept_of f) l (rw e)

  sound-reset : (f : Kept) (m : List Float) → Sound o (reset f) m
  unfolding reset
  sound-reset f m = nothing-held (reset f) m refl

  pub good-reset : (f r : Factoring) (m : List Float) → kept_of r ≡ reset (kept_of f) → Good o r m
  good-reset f r m e = rw e (sound-reset (kept_of f) m)

  module _ (few : o ≤ Sizes.originals) (q : List Float) (n : ℕ) (indices : List ℕ) (r : Rising o indices) where
    -- of both together; and a factor that `update` gives is of the block on the listed
    abbrev Both : Factor → Type 0
    Both (factor u m) = Sound o u m × ((s : List ℕ) → u.held ≡ some s → indices ≡ s)

    module _ (f : Kept) (l : List Float) (g : Sound o f l) where
      sound-factor : (m : List Float) → Sounds (length indices) m → Both (factor (with_factor indices f) m)
      unfolding with_factor
      sound-factor m s = (
        record {
          rises = λ t z. rw (some-injective indices t z) at r;
          pivots = λ t z. rw (some-injective indices t z) at s;
        },
        λ t z. some-injective indices t z,
      )

      sound-singular : (m : List Float) → Both (factor (with_singular indices f) m)
      unfolding with_singular
      sound-singular m = (nothing-held (with_singular indices f) m refl, λ t z. absurd (none-ne-some t z))

      sound_without : (m : List Float) → Both (factor (reset f) m)
      unfolding reset
      sound_without m = (sound-reset f m, λ t z. absurd (none-ne-some t z))

      -- computed afresh
      passing-sound : (k : ℕ) (x : Out (List Float)) (m : List Float) → passing k x ≡ out true m → Sounds k m
      unfolding passing
      passing-sound k (out true a) m e =
          let z : a ≡ m = cc in
          let y : positive_definite a k ≡ true = cc in rw (← z) (definite_sounds k a y)
      passing-sound k (out false a) m e = absurd (false_true (let z : false ≡ true = cc in z))

      fresh-sound : (z m : List Float) → fresh q n indices z ≡ out true m → Sounds (length indices) m
      unfolding fresh definite
      fresh-sound z m e = passing-sound (length indices) (cholesky (length indices) (over (submatrix q n indices) z)) m e

      sound-kept : (x : Out (List Float)) → ((m : List Float) → x ≡ out true m → Sounds (length indices) m) → Both (kept indices f x)
      unfolding kept
      sound-kept (out true m) h = sound-factor m (h m refl)
      sound-kept (out false m) h = sound-singular m

      sound-afresh : (m : List Float) → Both (afresh q n indices f m)
      unfolding afresh
      sound-afresh m =
          let x = fresh q n indices m in
          pick_keep Both (contains_singular indices f.singular) {x = factor (reset f) m} {y = kept indices f x} (sound_without m)
          (sound-kept x (λ a e. fresh-sound m a e))

      -- changed from the last
      last-sound : (h : Option (List ℕ)) → f.held ≡ h → (m : List Float) → last_updated q n indices h l ≡ out true m → Sounds (length indices) m
      unfolding last_updated
      last-sound none t m e = absurd (false_true (let z : false ≡ true = cc in z))
      last-sound (some s) t m e = updated-sound q n o s indices l m few (g.rises s t) r (g.pivots s t) e

      sound-settled : (x : Out (List Float)) → ((m : List Float) → x ≡ out true m → Sounds (length indices) m) → Both (settled q n indices f x)
      unfolding settled
      sound-settled (out true m) h = sound-factor m (h m refl)
      sound-settled (out false m) h = sound-afresh m

      sound-update : Both (update q n indices f l)
      unfolding update
      sound-update = sound-settled (last_updated q n indices f.held l) (last-sound f.held refl)

    module _ (f : Factoring) (l : List Float) (g : Good o f l) (u : Factoring) {m : List Float}
        (given : factor (kept_of u) m ≡ update q n indices (kept_of f) l) where
      given-sound : Both (factor (kept_of u) m)
      given-sound = rw (← given) at (sound-update (kept_of f) l g)

      pub update-good : Good o u m
      update-good = given-sound.0

      -- and no pivot of it is 0
      pub update-regular : u.factored ≡ true → regular m (length indices) ≡ true
      update-regular e =
          let h : (kept_of u).held ≡ some (list_of u.held) = held-is u ∙ some_listed u.held e in
          rw (given-sound.1 _ h) (sounds_regular (length (list_of u.held)) m (given-sound.0.pivots _ h))
