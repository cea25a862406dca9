-- Laws of the definitions: the direction has n elements.
use Rattle.std.specs.Prelude.{◌≡◌, List, ℕ, length, Float}
use Rattle.folds.specs.Fold.{fold_keep}
use Rattle.vector.specs.Laws.{length-add_scaled, length-filled}
use Rattle.null_part.specs.NullPart.{null_one, null_each, null_part}

pub length-null_one : (n d : ℕ) (z vectors c : List Float) (j : ℕ) (direction : List Float) → length (null_one n d z vectors c j direction) ≡ n
unfolding null_one
length-null_one n d z vectors c j direction = length-add_scaled n _ _ _

pub length-null_part : (n d : ℕ) (values vectors : List Float) (cutoff : Float) (z c : List Float) →
    length (null_part n d values vectors cutoff z c) ≡ n
unfolding null_part null_each
length-null_part n d values vectors cutoff z c =
    fold_keep (λ (l : List Float). length l ≡ n) _ _ _ (length-filled n _) (λ i l h e. length-null_one n d z vectors c _ l)
