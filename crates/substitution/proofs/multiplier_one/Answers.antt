use Rattle.folds.specs.Kit.{arith}
use Rattle.substitution.specs.Substitution.{multiplier_one}
use Rattle.substitution.proofs.multiplier_one.Goals as goal

pub known_from-known-requires : goal.known_from-known-requires
known_from-known-requires c =
    let r = c.requires in (r.0, r.1, r.3, omega (arith, r.2, r.4), omega (arith, r.4), r.5)

pub get-requires : goal.get-requires
get-requires c = let r = c.requires in (r.0, omega (arith, r.2, r.4), r.3 _ r.4)

pub returns : goal.returns
unfolding multiplier_one
returns c = rw (c.get.ensures, c.known_from-known.ensures)
