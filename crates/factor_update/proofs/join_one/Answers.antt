use Rattle.folds.specs.Kit.{◌≤◌, arith, pick}
use Rattle.folds.specs.Cell.{area}
use Rattle.folds.specs.Marks.{place-few}
use Rattle.factor_update.specs.Held.{tested, join_one}
use Rattle.factor_update.proofs.join_one.Goals as goal

pub positive_definite-requires : goal.positive_definite-requires
positive_definite-requires c =
    let few : c.place-k.result ≤ c.args.originals = rw c.place-k.ensures
    (place-few c.joined-next.result c.args.originals) in
    omega (arith, area few few, c.requires.1.l_holds)

pub bounds-wanted-i : goal.bounds-wanted-i
unfolding join_one tested pick
bounds-wanted-i c = omega (arith, c.requires.0.few, c.requires.2)

pub bounds-s-i : goal.bounds-s-i
unfolding join_one tested pick
bounds-s-i c = omega (arith, c.requires.0.few, c.requires.2)

pub returns-then-s-i : goal.returns-then-s-i
unfolding join_one tested pick
returns-then-s-i c = rw (c.if-wanted-i.true, c.if-s-i.true)

pub joined-next-requires : goal.joined-next-requires
unfolding join_one tested pick
joined-next-requires c = let p = c.requires in (p.0, p.1, p.2, c.if-s-i.false)

pub place-k-requires : goal.place-k-requires
unfolding join_one tested pick
place-k-requires c = omega (arith, c.requires.0.few)

pub returns-then-positive_definite : goal.returns-then-positive_definite
unfolding join_one tested pick
returns-then-positive_definite c =
    rw (
      c.if-wanted-i.true,
      c.if-s-i.false,
      ← c.joined-next.ensures,
      ← c.place-k.ensures,
      ← c.positive_definite.ensures,
      c.if-positive_definite.true,
    )

pub returns-then-wanted-i : goal.returns-then-wanted-i
unfolding join_one tested pick
returns-then-wanted-i c = (
  c.joined-next.result,
  rw (
    c.if-wanted-i.true,
    c.if-s-i.false,
    ← c.joined-next.ensures,
    ← c.place-k.ensures,
    ← c.positive_definite.ensures,
    c.if-positive_definite.false,
  ),
)

pub returns : goal.returns
unfolding join_one tested pick
returns c = rw c.if-wanted-i.false
