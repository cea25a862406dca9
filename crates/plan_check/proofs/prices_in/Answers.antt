use Rattle.std.specs.Prelude.{◌≡◌, Bool, ℤ, pos, neg_ℤ, length, take}
use Rattle.std.proofs.Common.{◌∙◌, rules}
use Rattle.block.specs.Gap.{price}
use Rattle.plan_check.specs.Check.{between, prices_in}
use Rattle.plan_check.specs.Laws.{all_by, all_first}
use Rattle.plan_check.proofs.prices_in.Goals as goal

within : ℤ → Bool
within p = between (neg_ℤ (pos 4294967296)) (pos 4294967296) p

pub returns : goal.returns
unfolding prices_in within
returns c =
    let p = take c.args.n c.args.prices.now in
    all_by (length p) (λ k. within (price p k)) (search rules) ∙ all_first within c.args.n c.args.prices.now c.requires
