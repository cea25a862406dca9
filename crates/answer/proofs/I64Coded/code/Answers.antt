use mathlib.Core.Path.{◌∙◌, ap}
use borrow.Author.Rules.{rules}
use mir.Syntax.{w64}
use mir.Val.{of_z, SFits}
use mir.Facts.{to_z-of_z}
use Rattle.answer.specs.Code.{code_cast8}
use Rattle.answer.proofs.I64Coded.code.Goals as goal

pub returns : goal.returns
returns c =
    let f : SFits w64 c.args.self.now = search rules in
    c.cast_unsigned.ensures ∙ ap (of_z w64) (to_z-of_z f) ∙ code_cast8 c.args.self.now
