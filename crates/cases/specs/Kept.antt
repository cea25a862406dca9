-- Whether a plan keeps a block, worked out; where it says so, the plan does.
use Rattle.std.specs.Prelude.{◌≡◌, Bool, true, List, length, ℤ, pos, ◌≤ℤ◌}
use Rattle.std.proofs.Common.{arith}
use Rattle.std.specs.Int.Signed.{le_z}
use Rattle.folds.specs.Fold.{all, all-at, both, both_true}
use Rattle.ints.specs.Diff.{diff, split, le_z_true}
use Rattle.block.specs.Block.{Block, anchor, span}
use Rattle.block.specs.Plan.{sum_of, moves}
use Rattle.block.specs.Keeps.{Keeps, windows_kept}
use Rattle.block.specs.Laws.{window_kept-is, windows_kept-is}

unfoldable pub from_to : (lower upper z : ℤ) → Bool
from_to lower upper z = both (le_z lower z) (le_z z upper)

unfoldable pub keeps : Block → (times : List ℤ) → Bool
keeps b x =
    both (windows_kept b x)
    (both (all (length b.anchors) (λ k. from_to (anchor b k).value (anchor b k).value (sum_of (anchor b k).list x)))
    (both (all (length b.spans) (λ k. from_to (span b k).lower (span b k).upper (sum_of (span b k).list x)))
    (le_z (moves b x) (pos b.cap))))

≤_antisym : (x y : ℤ) → y ≤ℤ x → x ≤ℤ y → x ≡ y
≤_antisym = split _ λ a b. split _ λ c d. simp diff (omega arith)

from_to_lem : (l u z : ℤ) → from_to l u z ≡ true → (l ≤ℤ z) × (z ≤ℤ u)
unfolding from_to
from_to_lem l u z e = let p = both_true _ _ e in (le_z_true l z p.0, le_z_true z u p.1)

pub keeps_true : (b : Block) (x : List ℤ) → keeps b x ≡ true → Keeps b x
unfolding keeps
keeps_true b x e =
    let p = both_true _ _ e in
    let q = both_true _ _ p.1 in
    let r = both_true _ _ q.1 in
    record {
      windows = λ i l.
          let w = both_true _ _ (rw window_kept-is at (all-at _ i _ (rw windows_kept-is at p.0) l)) in
          (le_z_true _ _ w.0, le_z_true _ _ w.1);
      anchors = λ k l.
          let w = from_to_lem (anchor b k).value (anchor b k).value (sum_of (anchor b k).list x) (all-at _ k _ q.0 l) in
          ≤_antisym _ _ w.0 w.1;
      spans = λ k l. from_to_lem (span b k).lower (span b k).upper (sum_of (span b k).list x) (all-at _ k _ r.0 l);
      cap = le_z_true _ _ r.1;
    }
