use Rattle.std.specs.Prelude.{◌≡◌, ℕ, ◌+◌, ◌-◌, ◌<◌, ◌≤◌, List, length, take, drop, Float}
use Rattle.std.proofs.Common.{◌∙◌, ap, arith, length-take-le, get_or-take}
use Rattle.std.proofs.Math.ListN.{length-drop}
use Rattle.std.proofs.Math.Seq.{get_or-drop}
use Rattle.std.specs.Float.Ieee.{nan}
use Rattle.folds.specs.Fold.{span, fold-same}
use Rattle.arith.specs.Float.{f0, at}
use Rattle.reductions.specs.Reductions.{dot}
use Rattle.columns.specs.Columns.{column}
use Rattle.columns.specs.Laws.{column-at, length-column}
use Rattle.triangular.specs.Triangular.{known_below}
use Rattle.triangular.proofs.known_below.Goals as goal

-- the elements from b to n - 1
part-at : (b n k : ℕ) (a : List Float) → k < n - b → at (take (n - b) (drop b a)) k ≡ at a (b + k)
part-at b n k a h = get_or-take (n - b) (drop b a) k nan h ∙ get_or-drop b a k nan

part-length : (b n : ℕ) (a : List Float) → n ≤ length a → length (take (n - b) (drop b a)) ≡ n - b
part-length b n a h = length-take-le (n - b) (drop b a) (simp length-drop (omega arith))

pub slice_bounds-dot-end : goal.slice_bounds-dot-end
slice_bounds-dot-end c = let x = c.args in omega (arith, ap length c.column-column.ensures, length-column x.n x.l.now x.i)

pub dot-requires : goal.dot-requires
dot-requires c =
    let x = c.args in
    let y = c.column-column in
    let h : x.n ≤ length y.result.now = omega (arith, ap length y.ensures, length-column x.n x.l.now x.i) in
    (omega (arith, part-length (x.i + 1) x.n y.result.now h), omega (arith, part-length (x.i + 1) x.n x.x.now c.requires.2))

pub returns : goal.returns
unfolding known_below span dot
returns c =
    let x = c.args in
    let b = x.i + 1 in
    rw (c.dot.ensures, c.column-column.ensures)
    (fold-same (x.n - b) _ _ f0
    (λ k s h. rw (part-at b x.n k (column x.n x.l.now x.i) h, part-at b x.n k x.x.now h, column-at x.n x.l.now x.i (b + k) (omega arith))))
