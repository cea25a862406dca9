-- From a factor whose pivots pass the floor or are NaN, `updated` gives one of that kind: no kept factor has a 0 on its diagonal.
use Rattle.std.specs.Prelude.{◌≡◌, length, Float}
use Rattle.std.proofs.Math.Path.{refl}
use Rattle.std.proofs.Common.{◌∙◌, arith}
use Rattle.std.proofs.Math.Bool.{Bool, true, false}
use mathlib.Core.List.{List}
use Prim.Native.Nat.{ℕ, zero, suc, ◌≤◌}
use Rattle.std.proofs.Math.ListN.{length-set}
use Rattle.folds.specs.Fold.{walk, then, pick, false_true, Out, out}
use Rattle.folds.specs.Tab.{length-tab}
use Rattle.folds.specs.Chosen.{chosen}
use Rattle.folds.specs.Marks.{contains, marked, marks, place, marks-chosen}
use Rattle.sizes.specs.Sizes as Sizes
use Rattle.cholesky.specs.Cholesky.{positive_definite}
use Rattle.cholesky.specs.Pivots.{Sounds, definite_sounds}
use Rattle.variable_set.specs.Rising.{Rising}
use Rattle.variable_set.specs.Joining.{afresh}
use Rattle.variable_set.specs.Marked.{joining}
use Rattle.leaving.specs.Held.{Held, held, leaving}
use Rattle.leaving.specs.Sound.{Fine, leaving_fine}
use Rattle.factor_update.specs.Factor as Factor
use Rattle.factor_update.specs.Held.{joined, tested, join_one, joins, factor_of, updated}
use Rattle.factor_update.specs.Lists.{AgreeOut, join_agrees, left_agree, position-is, updated-same}

-- ---- joining
abbrev FineOut : ℕ → Out Held → Type 0
FineOut o (out true s) = Fine o s
FineOut o (out false s) = Unit

module _ (q : List Float) (m o : ℕ) (want : List Bool) where
  tested_fine : (s : Held) → length s.marks ≡ Sizes.originals → FineOut o (tested o s)
  unfolding tested
  tested_fine s k = go (positive_definite s.factor (place s.marks o)) refl
    where
      go : (b : Bool) → positive_definite s.factor (place s.marks o) ≡ b → FineOut o (out b s)
      go true e = record { wide = k; sound = definite_sounds (place s.marks o) s.factor e }
      go false e = tt

  joined-wide : (i : ℕ) (s : Held) → length s.marks ≡ Sizes.originals → length (joined q m o i s).marks ≡ Sizes.originals
  unfolding joined
  joined-wide i s k = simp length-set k

  join_fine : (i : ℕ) (s : Held) → Fine o s → FineOut o (join_one q m o want i s)
  unfolding join_one
  join_fine i s f = go (marked want i) (marked s.marks i)
    where
      go : (c b : Bool) → FineOut o (pick c (pick b (out true s) (tested o (joined q m o i s))) (out true s))
      go true true = unfold pick in f
      go true false = unfold pick in tested_fine (joined q m o i s) (joined-wide i s f.wide)
      go false b = unfold pick in f

  turn_fine : (i : ℕ) (r : Out Held) → FineOut o r → FineOut o (then (join_one q m o want i) r)
  turn_fine i (out true s) f = join_fine i s f
  turn_fine i (out false s) f = tt

  walk_fine : (n : ℕ) (s : Held) → Fine o s → FineOut o (walk n (join_one q m o want) s)
  unfolding walk
  walk_fine zero s f = f
  walk_fine (suc n) s f = turn_fine n (walk n (join_one q m o want) s) (walk_fine n s f)

module _ (o : ℕ) (few : o ≤ Sizes.originals) (w : ℕ → Bool) where
  last-sound : (r : Out Held) (l : List Float) → FineOut o r → AgreeOut o few w o r → factor_of r ≡ out true l →
      Sounds (length (chosen o w)) l
  unfolding factor_of
  last-sound (out true s) l f a e = let z : s.factor ≡ l = cc in rw (position-is o few w o s a, ← z) f.sound
  last-sound (out false s) l f a e = absurd (false_true (let z : false ≡ true = cc in z))

  chosen-sound : (q : List Float) (n : ℕ) (r : ℕ → Bool) (l m : List Float) → Sounds (length (chosen o r)) l →
      updated q n o (marks Sizes.originals (chosen o r)) l (chosen o w) ≡ out true m → Sounds (length (chosen o w)) m
  unfolding updated joins
  chosen-sound q n r l m h e = go (afresh (joining (marks Sizes.originals (chosen o r)) (chosen o w)) (length (chosen o w))) e
    where
      want : List Bool
      want = marks Sizes.originals (chosen o w)

      start : Held
      start = held (marks Sizes.originals (chosen o r)) l

      width : length (marks Sizes.originals (chosen o r)) ≡ Sizes.originals
      width = unfold marks in length-tab Sizes.originals (contains (chosen o r))

      begun : Fine o start
      begun = record { wide = width; sound = unfold place in rw (marks-chosen Sizes.originals o r few) h }

      go : (b : Bool) → pick b (out false l) (factor_of (walk o (join_one q n o want) (leaving o want start))) ≡ out true m →
          Sounds (length (chosen o w)) m
      go true d = absurd (false_true (let z : false ≡ true = unfold pick in cc in z))
      go false d =
          last-sound (walk o (join_one q n o want) (leaving o want start)) m
          (walk_fine q n o want o (leaving o want start) (leaving_fine o few want start begun))
          (join_agrees o few w q n o (leaving o want start) (omega arith) (left_agree o few w start width))
          (unfold pick in d)

-- the factor that `updated` gives
pub updated-sound : (q : List Float) (n o : ℕ) (from indices : List ℕ) (l m : List Float) → o ≤ Sizes.originals →
    Rising o from → Rising o indices → Sounds (length from) l → Factor.updated q n from l indices ≡ out true m → Sounds (length indices) m
updated-sound q n o from indices l m few r i s e =
    let u : updated q n o (marks Sizes.originals from) l indices ≡ out true m = updated-same q n o few from indices l r i ∙ e in
    let v : updated q n o (marks Sizes.originals (chosen o (contains from))) l (chosen o (contains indices)) ≡ out true m = rw (r.is_chosen, i.is_chosen) u in
    rw i.is_chosen at (chosen-sound o few (contains indices) q n (contains from) l m (rw r.is_chosen s) v)
