use Rattle.folds.specs.Kit.{◌≡◌, ◌<◌, ◌≤◌, ◌∙◌, ℕ, true, false, ap, length, rules}
use Rattle.std.specs.Prelude.{MatchOption}
use lib.Ieee.{eq}
use Rattle.arith.specs.Float.{at}
use Rattle.segments.specs.declared.State.TheVariants.{Free}
use Rattle.segments.specs.Laws.{inside-at, inside-free}
use Rattle.segments.proofs.Segments.inside.Goals as goal
use Rattle.segments.proofs.Segments.inside.Goals.{After-position}

found : (c : After-position) → let l = c.points.result.now in
    MatchOption c.position.result ((k : ℕ) → k < length l → eq (at l k) c.args.x ≡ false)
    (λ i. (i < length l) × (eq (at l i) c.args.x ≡ true) × ((k : ℕ) → k < i → eq (at l k) c.args.x ≡ false))
found c = search rules

pub returns-in-Some : goal.returns-in-Some
returns-in-Some c =
    let room : c.args.self.count ≤ length c.args.self.points = search rules in
    let h = rw c.in-Some.is at (found (goal.at.returns-in-Some c).After-position) in
    inside-at c.args.self room c.args.x c.points.ensures c.in-Some.p h.0 h.1 h.2

pub returns-in-None : goal.returns-in-None
returns-in-None c =
    let room : c.args.self.count ≤ length c.args.self.points = search rules in
    let h = rw c.in-None.is at (found (goal.at.returns-in-None c).After-position) in
    ap Free c.below.ensures ∙ inside-free c.args.self room c.args.x c.points.ensures h
