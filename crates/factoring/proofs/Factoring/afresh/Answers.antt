use Rattle.folds.specs.Kit.{pick}
use native.Mathlib.Nat.{le_refl}
use Rattle.variable_set.specs.Laws.{listed_below}
use Rattle.factoring.specs.Kept.{afresh, kept, kept_of}
use Rattle.factoring.proofs.Factoring.afresh.Goals as goal

pub contains_singular-requires : goal.contains_singular-requires
unfolding afresh pick kept kept_of
contains_singular-requires c = let p = c.requires in listed_below _ _ p.1 _ (le_refl _)

pub returns-then-contains_singular : goal.returns-then-contains_singular
unfolding afresh pick kept kept_of
returns-then-contains_singular c = rw (← c.contains_singular.ensures, c.if-contains_singular.true, c.reset.ensures)

pub fresh-requires : goal.fresh-requires
unfolding afresh pick kept kept_of
fresh-requires c =
    let p = c.requires in
    (p.0, p.2, p.3, p.4)

pub with_factor-requires : goal.with_factor-requires
unfolding afresh pick kept kept_of
with_factor-requires c = c.requires.1

pub returns-then-fresh : goal.returns-then-fresh
unfolding afresh pick kept kept_of
returns-then-fresh c =
    rw (
      ← c.contains_singular.ensures,
      c.if-contains_singular.false,
      ← c.fresh.ensures,
      c.if-fresh.true,
      c.with_factor.ensures,
    )

pub with_singular-requires : goal.with_singular-requires
unfolding afresh pick kept kept_of
with_singular-requires c = c.requires.1

pub returns : goal.returns
unfolding afresh pick kept kept_of
returns c =
    rw (
      ← c.contains_singular.ensures,
      c.if-contains_singular.false,
      ← c.fresh.ensures,
      c.if-fresh.false,
      c.with_singular.ensures,
    )
