use native.Mathlib.Nat.{le_refl}
use Rattle.variable_set.specs.Laws.{listed_below, marks-rising}
use Rattle.factoring.specs.Kept.{with_singular, option_of, kept_of}
use Rattle.factoring.proofs.Factoring.with_singular.Goals as goal

pub marks-singular-requires : goal.marks-singular-requires
unfolding with_singular option_of kept_of
marks-singular-requires c = listed_below _ _ c.requires _ (le_refl _)

pub returns : goal.returns
unfolding with_singular option_of kept_of
returns c = rw (c.marks-singular.ensures, marks-rising _ _ c.requires)
