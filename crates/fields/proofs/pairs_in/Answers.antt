use borrow.Author.Rules.{rules}
use Rattle.format.specs.Laws.{choices}
use Rattle.fields.proofs.pairs_in.Goals as goal

pub returns-then-n-fixed : goal.returns-then-n-fixed
returns-then-n-fixed c = (search choices depth 10, search rules)

pub returns-then-n-fixed-2 : goal.returns-then-n-fixed-2
returns-then-n-fixed-2 c = (search choices depth 10, search rules)

pub returns-then-n-fixed-3 : goal.returns-then-n-fixed-3
returns-then-n-fixed-3 c = (search choices depth 10, search rules)

pub returns-then-n-fixed-4 : goal.returns-then-n-fixed-4
returns-then-n-fixed-4 c = (search choices depth 10, search rules)

pub returns : goal.returns
returns c = (search choices depth 10, search rules)
