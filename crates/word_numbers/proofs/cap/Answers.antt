use Rattle.folds.specs.Kit.{ap, ◌∙◌, sym}
use Rattle.arith.specs.Float.{fromℕ}
use Rattle.format.specs.Entries.{cap-is}
use Rattle.word_numbers.specs.Words.{cap}
use Rattle.word_numbers.proofs.cap.Goals as goal

pub returns : goal.returns
unfolding cap
returns c = c.nearest_u64_to_f64.ensures ∙ ap fromℕ (sym (cap-is _))
