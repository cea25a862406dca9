-- How long the lists of Cost.antt are.
use Rattle.std.specs.Prelude.{◌≡◌, ℕ, ◌*◌, List, length, refl, Float}
use Rattle.std.proofs.Common.{◌∙◌, length-set}
use Rattle.folds.specs.Fold.{fold, fold_keep}
use Rattle.arith.specs.Float.{f0}
use Rattle.vector.specs.Laws.{length-filled}
use Rattle.block.specs.Block.{Block, Item, Tempo, tempo}
use Rattle.block_cost.specs.Cost.{plus_at, add_row, add_products, hessian, add_targets, linear}

same-plus_at : (a : List Float) (k : ℕ) (v : Float) → length (plus_at a k v) ≡ length a
unfolding plus_at
same-plus_at a k v = length-set a k _

-- what each turn of a loop leaves as long as it was, the whole loop does
same-fold : (m n : ℕ) (f : ℕ → List Float → List Float) (a : List Float) → length a ≡ n →
    ((k : ℕ) (s : List Float) → length (f k s) ≡ length s) → length (fold m f a) ≡ n
same-fold m n f a e h = fold_keep (λ (s : List Float). length s ≡ n) m f a e (λ k s _ p. h k s ∙ p)

same-add_row : (n : ℕ) (l : List Item) (i : ℕ) (w : Float) (q : List Float) → length (add_row n l i w q) ≡ length q
unfolding add_row
same-add_row n l i w q = same-fold (length l) (length q) _ q refl (λ k s. same-plus_at s _ _)

same-add_products : (n : ℕ) (t : Tempo) (q : List Float) → length (add_products n t q) ≡ length q
unfolding add_products
same-add_products n t q = same-fold (length t.list) (length q) _ q refl (λ k s. same-add_row n t.list _ _ s)

same-add_targets : (t : Tempo) (c : List Float) → length (add_targets t c) ≡ length c
unfolding add_targets
same-add_targets t c = same-fold (length t.list) (length c) _ c refl (λ k s. same-plus_at s _ _)

module _ (b : Block) where
  pub length-hessian : length (hessian b) ≡ length b.words * length b.words
  unfolding hessian
  length-hessian = same-fold (length b.tempos) _ _ _ (length-filled _ f0) (λ j s. same-add_products _ (tempo b j) s)

  pub length-linear : length (linear b) ≡ length b.words
  unfolding linear
  length-linear = same-fold (length b.tempos) _ _ _ (length-filled _ f0) (λ j s. same-add_targets (tempo b j) s)
