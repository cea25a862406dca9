use borrow.Author.Rules.{rules}
use Rattle.answer.specs.File.{file_size}
use Rattle.answer.proofs.file_size.Goals as goal

pub returns : goal.returns
unfolding file_size
returns c = search rules
