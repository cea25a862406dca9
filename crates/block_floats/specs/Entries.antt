-- What the loops over a block's fields and lists write, entry by entry.
use Rattle.std.specs.Prelude.{◌≡◌, List, ℕ, ◌<◌, ◌≤◌, length, take, get_or, set, T, ℤ, pos, negsuc, Float}
use Rattle.std.proofs.Math.Path.{refl}
use Rattle.std.proofs.Common.{sym, ap, ◌∙◌, le_trans, le→leb, lt→ltb, lit≤, to_z, of_z}
use Rattle.std.specs.Float.{nan, binary64}
use Rattle.std.specs.Float.Ieee.{in_float, of_int, of_bits}
use Rattle.std.specs.Int.{w64}
use Rattle.folds.specs.Fold.{fold, tab}
use Rattle.folds.specs.Tab.{tab_end, tab-same, tab-all}
use Rattle.ints.specs.Bound.{◌≼◌, loose}
use Rattle.ints.specs.Held.{cell, read}
use Rattle.arith.specs.Float.{f0}
use Rattle.vector.specs.Vector.{filled}
use Rattle.vector.specs.Laws.{length-filled, filled-at}
use Rattle.nearest.specs.Value.{fromℤ}
use Rattle.block.specs.Block.{Item, item}
use Rattle.block.specs.Ranges.{Short, RangedList}
use Rattle.format.specs.Structs.{Filled, list_of, pair_at}
use Rattle.format.specs.Entries.{item-is}
use Rattle.format.specs.Lent.{Lent, lent-pairs}
use Rattle.format.specs.declared.Pair.{Pair}
use Rattle.format.specs.declared.Pairs.{Pairs}
use Rattle.exact.specs.Entries.{pair-coef, pair-word}

-- a list that k stores filled, of which entry i of n is h i too
pub filled_by : {A : Type 0} {s : List A} (o : List A) (k n m : ℕ) (g h : ℕ → A) → m ≡ n → ((i : ℕ) → i < n → g i ≡ h i) → k ≤ n → n ≤ k →
    length o ≡ n → s ≡ fold k (λ i l. set l i (g i)) o → s ≡ tab m h
filled_by o k n m g h e f p q l t = rw e (tab_end k n g o p q l t ∙ tab-same n g h f)

pub zeros : (n : ℕ) → filled n f0 ≡ tab n (λ _. fromℤ (pos 0))
zeros n = sym (tab-all nan n (filled n f0) (length-filled n f0)) ∙ tab-same n _ _ (λ i h. filled-at n i h f0 ∙ from-zero)
  where
    from-zero : f0 ≡ fromℤ (pos 0)
    from-zero = unfold of_int of_bits in refl

-- ---- a number in its range loses nothing as a float
pub in_float_lem : (z : ℤ) → z ≼ 8388608 → T (in_float binary64 z)
unfolding in_float
in_float_lem (pos n) h = le→leb n _ (le_trans h.size (lit≤ tt))
in_float_lem (negsuc n) h = lt→ltb n _ (le_trans h.size (lit≤ tt))

-- ---- pair k, as the code reads it of the lent list
module _ {l : Pairs} (F : Filled l) {ps : List Pair} (e : ps ≡ take l.count l.pair) {k : ℕ} (h : k < length ps) where
  lent : Lent l.pair l.count ps
  lent = lent-pairs F e

  abbrev pair : Pair
  pair = get_or ps k (record { word = 0; coef = pos 0 })

  pub pair-is : pair ≡ pair_at l k
  pair-is = lent.at _ h

  pub word_of : pair.word ≡ (item (list_of l) k).word
  word_of = ap (λ (p : Pair). p.word) pair-is ∙ ap (λ (e : Item). e.word) (sym (item-is F (lent.within h)))

  pub word-within : {n : ℕ} → RangedList n (list_of l) → pair.word < n
  word-within R = rw pair-is (pair-word F (lent.within h) R)

  pub coef-read : Short (list_of l) → to_z w64 (of_z w64 pair.coef) ≼ 8388608
  coef-read S = rw pair-is (loose (lit≤ tt) (read (cell w64 (pair-coef F (lent.within h) S) tt)))

  pub coef-of : Short (list_of l) → {r : Float} → r ≡ fromℤ (to_z w64 (of_z w64 pair.coef)) → r ≡ fromℤ (item (list_of l) k).coef
  coef-of S q =
      q ∙ ap (λ (p : Pair). fromℤ (to_z w64 (of_z w64 p.coef))) pair-is
      ∙ ap fromℤ ((cell w64 (pair-coef F (lent.within h) S) tt).is ∙ ap (λ (e : Item). e.coef) (sym (item-is F (lent.within h))))
