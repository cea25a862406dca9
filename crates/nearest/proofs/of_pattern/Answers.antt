-- `of_pattern` is the nearest whole number to the float of a pattern with the sign clear.
use borrow.Author.Rules.{rules}
use Rattle.nearest.proofs.Sizes.{size-low, size_mid, size_top}
use Rattle.nearest.proofs.of_pattern.Goals as goal

pub returns-then-e-lt1022 : goal.returns-then-e-lt1022
returns-then-e-lt1022 c = size-low c.args.b c.if-e-lt1022.true

pub returns-then-e-lt1075 : goal.returns-then-e-lt1075
returns-then-e-lt1075 c = size_mid c.args.b _ c.if-e-lt1022.false c.if-e-lt1075.true c.shifted.ensures

pub returns : goal.returns
returns c = size_top c.args.b c.if-e-lt1075.false c.requires
