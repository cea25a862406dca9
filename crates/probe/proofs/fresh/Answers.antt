use Rattle.folds.specs.Kit.{◌≤◌, true, sym, ◌∙◌, arith, pick, length}
use Rattle.std.specs.Prelude.{replicate}
use Rattle.folds.specs.Cell.{area}
use Rattle.folds.specs.Tab.{taken-over}
use Rattle.folds.specs.Marks.{rising, rising-few, rising-below}
use Rattle.std.proofs.Common.{le_refl}
use Rattle.std.proofs.lemmas.Bool.{le-leb, lt-leb}
use Rattle.sizes.specs.Sizes as Sizes
use Rattle.probe.specs.Probe.{shape}
use Rattle.probe.specs.Hooks.{fresh}
use Rattle.probe.proofs.fresh.Goals as goal

pub slice_bounds-indices-end : goal.slice_bounds-indices-end
slice_bounds-indices-end c =
    let few = rising-few c.args.n (replicate Sizes.originals true) in
    omega (arith, c.rising-k.ensures.value, few, c.if-n-gt-ORIGINALS.false)

-- the part of the array that is lent is the list
pub slice_bounds-fresh-end : goal.slice_bounds-fresh-end
slice_bounds-fresh-end c =
    rw (taken-over _ _ (sym c.rising-k.ensures.value) c.rising-k.ensures.list_after) c.rising-k.ensures.value

pub fresh-requires : goal.fresh-requires
fresh-requires c =
    let n = c.args.n in
    let h = shape _ _ _ _ _ (sym c.shaped.ensures ∙ c.if-shaped.true) in
    let lent = taken-over _ _ (sym c.rising-k.ensures.value) c.rising-k.ensures.list_after in
    let k : length (rising n (replicate Sizes.originals true)) ≤ n = rising-few n (replicate Sizes.originals true) in (
      omega (arith, h.matrix),
      rw lent (rising-below n (replicate Sizes.originals true)),
      rw lent (omega (arith, area k k, h.work)),
      rw lent (omega (arith, area k (le_refl n), h.square)),
    )

pub returns-then-shaped : goal.returns-then-shaped
unfolding fresh pick
returns-then-shaped c =
    rw (
      le-leb _ _ c.if-n-gt-ORIGINALS.false,
      ← c.shaped.ensures,
      c.if-shaped.true,
      ← taken-over _ _ (sym c.rising-k.ensures.value) c.rising-k.ensures.list_after,
    )
    c.fresh.ensures

pub returns-then-n-gt-ORIGINALS : goal.returns-then-n-gt-ORIGINALS
unfolding fresh pick
returns-then-n-gt-ORIGINALS c = rw (lt-leb _ _ c.if-n-gt-ORIGINALS.true)

pub returns : goal.returns
unfolding fresh pick
returns c = rw (le-leb _ _ c.if-n-gt-ORIGINALS.false, ← c.shaped.ensures, c.if-shaped.false)
