use native.Mathlib.Nat.{le_refl}
use Rattle.variable_set.specs.Laws.{listed_below, marks-rising}
use Rattle.factoring.specs.Kept.{with_factor, option_of, kept_of}
use Rattle.factoring.proofs.Factoring.with_factor.Goals as goal

pub marks-held-requires : goal.marks-held-requires
unfolding with_factor option_of kept_of
marks-held-requires c = listed_below _ _ c.requires _ (le_refl _)

pub returns : goal.returns
unfolding with_factor option_of kept_of
returns c = rw (c.marks-held.ensures, marks-rising _ _ c.requires)
