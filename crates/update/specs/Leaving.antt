-- As variables leave, every pivot passes the floor or is NaN, so none is 0: what joins next divides by no 0.
use Rattle.std.specs.Prelude.{true, ◌≡◌, refl, List, ℕ, ◌+◌, ◌-◌, ◌*◌, ◌<◌, ◌≤◌, ltb, length, Float}
use Rattle.std.proofs.Common.{inl, arith}
use Rattle.folds.specs.Fold.{tab_m, over, pick_keep}
use Rattle.folds.specs.Tab.{length-tab_m}
use Rattle.folds.specs.Part.{two}
use Rattle.arith.specs.Float.{f1}
use Rattle.columns.specs.Laws.{cell-over, cell-tab_m}
use Rattle.cholesky.specs.Cholesky.{positive_definite}
use Rattle.cholesky.specs.Pivots.{Sound, Sounds, sound-root, definite_sounds}
use Rattle.triangular.specs.Triangular.{regular}
use Rattle.triangular.specs.Pivots.{sounds_regular}
use Rattle.rank_one.specs.Laws.{rank_one-diagonal}
use Rattle.update.specs.Update.{staying, closed_entry, closed, removed, leave, remove_column}

pub staying-below : (n p i : ℕ) → i < n → staying p i < n + 1
unfolding staying
staying-below n p i h = pick_keep (λ x. x < n + 1) (ltb i p) {x = i} {y = i + 1} (omega arith) (omega arith)

closed-sound : (n p : ℕ) (l o : List Float) → Sounds (n + 1) l → Sounds n (over (closed n p l) o)
unfolding closed closed_entry
closed-sound n p l o s i h =
    let g : ℕ → ℕ → Float = closed_entry n p l in
    let k : n * n ≤ length (tab_m n n g) = rw (length-tab_m n n g) (omega arith) in
    rw (cell-over n n i i h h (tab_m n n g) o k, cell-tab_m n n i i h h g) (s (staying p i) (staying-below n p i h))

-- `remove_column` keeps the pivots from 0: what `positive_definite` passed has no 0 on its diagonal after any number of removals
pub removed-sound : (k p : ℕ) (l : List Float) → 0 < k → Sounds k l → Sounds (k - 1) (remove_column k p l)
unfolding remove_column leave
removed-sound k p l h s =
    let z : k - 1 + 1 ≡ k = omega arith in
    let x = two (over (closed (k - 1) p l) l) (removed (k - 1) p l) in
    rank_one-diagonal (k - 1) f1 Sound (inl refl) sound-root p x (closed-sound (k - 1) p l l (rw z s))

-- so what is left has no 0 on its diagonal: the divisions by older pivots in `insert_column` meet none
pub removed-regular : (k p : ℕ) (l : List Float) → 0 < k → positive_definite l k ≡ true → regular (remove_column k p l) (k - 1) ≡ true
removed-regular k p l h e = sounds_regular (k - 1) (remove_column k p l) (removed-sound k p l h (definite_sounds k l e))
