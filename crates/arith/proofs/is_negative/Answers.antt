use Rattle.std.proofs.Common.{sym, ◌∙◌}
use Rattle.arith.proofs.Cases.{sign-same, negative-nan}
use Rattle.arith.proofs.is_negative.Goals as goal

pub returns-then-is_nan : goal.returns-then-is_nan
returns-then-is_nan c = negative-nan c.args.x (sym c.is_nan.ensures.value ∙ c.if-is_nan.true)

pub returns : goal.returns
returns c = c.is_sign_negative.ensures ∙ sign-same c.args.x
