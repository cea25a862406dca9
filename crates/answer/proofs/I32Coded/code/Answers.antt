use mathlib.Core.Path.{◌∙◌, ap}
use borrow.Author.Rules.{rules}
use mir.Syntax.{w32}
use mir.Val.{of_z, SFits}
use mir.Facts.{to_z-of_z}
use Rattle.answer.specs.Code.{code_cast4}
use Rattle.answer.proofs.I32Coded.code.Goals as goal

pub returns : goal.returns
returns c =
    let f : SFits w32 c.args.self.now = search rules in
    c.from.ensures ∙ c.cast_unsigned.ensures ∙ ap (of_z w32) (to_z-of_z f) ∙ code_cast4 c.args.self.now
