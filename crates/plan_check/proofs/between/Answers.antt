use Rattle.std.specs.Prelude.{◌≡◌, refl, Bool, true, false, ◌&&◌, cond, ℕ, ℤ, pos, negsuc, ltb, leb}
use Rattle.std.proofs.Common.{sym, ◌∙◌, ap₂, to_z, of_z, to_z-of_z, w64, arith, Less, Equal, Greater}
use Rattle.std.specs.Ordering.{is_le}
use Rattle.std.specs.Int.Signed.{le_z, lt_z}
use borrow.Author.Tests.{le-leb, lt-leb, ltb-true, ltb-false}
use Rattle.folds.specs.Fold.{both}
use Rattle.plan_check.specs.Check.{between}
use Rattle.plan_check.proofs.between.Goals as goal

-- the library's order, as a test
nat_order : (a b : ℕ) → is_le (cond (ltb a b) Less (cond (ltb b a) Greater Equal)) ≡ leb a b
nat_order a b = go (ltb a b) (ltb b a) refl refl
  where
    go : (t u : Bool) → ltb a b ≡ t → ltb b a ≡ u → is_le (cond t Less (cond u Greater Equal)) ≡ leb a b
    go true u e f = sym (le-leb a b (let h = ltb-true a b e in omega arith))
    go false true e f = sym (lt-leb a b (ltb-true b a f))
    go false false e f = sym (le-leb a b (ltb-false b a f))

order : (x y : ℤ) → is_le (cond (lt_z x y) Less (cond (lt_z y x) Greater Equal)) ≡ le_z x y
order (pos a) (pos b) = nat_order a b
order (pos a) (negsuc b) = refl
order (negsuc a) (pos b) = refl
order (negsuc a) (negsuc b) = nat_order b a

and-both : (a b : Bool) → (a && b) ≡ both a b
unfolding both
and-both true b = refl
and-both false b = refl

-- the numbers as the library is lent them
abbrev read : ℤ → ℤ
read z = to_z w64 (of_z w64 z)

pub returns : goal.returns
unfolding between
returns c =
    let g = c.new.ensures in
    let a = c.args in
    let f = c.ranges in
    rw (g.start, g.end, g.exhausted) at c.contains.ensures.value
    ∙ ap₂ ◌&&◌ (order (read a.lower) (read a.z)) (order (read a.z) (read a.upper))
    ∙ ap₂ ◌&&◌ (ap₂ le_z (to_z-of_z f.lower) (to_z-of_z f.z)) (ap₂ le_z (to_z-of_z f.z) (to_z-of_z f.upper)) ∙ and-both _ _
