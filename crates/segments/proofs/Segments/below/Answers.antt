use Rattle.folds.specs.Kit.{◌≡◌, ◌<◌, ◌≤◌, ◌∙◌, ℕ, true, false, length, rules}
use Rattle.std.specs.Prelude.{MatchOption}
use lib.Ieee.{lt}
use Rattle.arith.specs.Float.{at}
use Rattle.segments.specs.Laws.{below-is}
use Rattle.segments.proofs.Segments.below.Goals as goal

pub returns : goal.returns
returns c =
    let l = c.points.result.now in
    let h : MatchOption c.rposition.result ((k : ℕ) → k < length l → lt (at l k) c.args.x ≡ false)
    (λ i. (i < length l) × (lt (at l i) c.args.x ≡ true) × ((k : ℕ) → i < k → k < length l → lt (at l k) c.args.x ≡ false)) = search rules in
    let room : c.args.self.count ≤ length c.args.self.points = search rules in
    c.unwrap_or.ensures ∙ below-is c.args.self room c.args.x c.points.ensures _ h
