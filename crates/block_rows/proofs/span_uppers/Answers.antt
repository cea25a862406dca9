use borrow.Author.Rules.{rules}
use Rattle.block_rows.specs.Rows.{span_uppers}
use Rattle.block_rows.proofs.span_uppers.Goals as goal

pub returns : goal.returns
unfolding span_uppers
returns c = c.each_span.ensures (λ s. s.upper) (λ s z r. search rules)
