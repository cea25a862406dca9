use borrow.Author.Rules.{rules}
use Rattle.block_rows.specs.Rows.{span_lowers}
use Rattle.block_rows.proofs.span_lowers.Goals as goal

pub returns : goal.returns
unfolding span_lowers
returns c = c.each_span.ensures (λ s. s.lower) (λ s z r. search rules)
