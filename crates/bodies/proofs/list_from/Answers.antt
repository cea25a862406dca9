use borrow.Author.Rules.{rules}
use Rattle.format.specs.Laws.{list-from}
use Rattle.bodies.proofs.list_from.Goals as goal

pub returns : goal.returns
returns c = (
  list-from c.args.count c.pair_from-p0.ensures c.pair_from-p1.ensures c.pair_from-p2.ensures
      c.pair_from-p3.ensures,
  record { count = search rules; pair = search rules },
)
