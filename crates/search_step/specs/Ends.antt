-- Document 01: 'Every search ends because fewer floats lie between its ends.' Whatever the solve answers, a step goes on with a bracket whose ends
-- are a bracket's, with fewer doublings left up to half of the largest float, or fewer floats between its ends.
use Rattle.std.specs.Prelude.{◌≡◌, false, List, ℕ, ◌<◌, Float}
use Rattle.std.specs.Float.Ieee.{lt}
use Rattle.folds.specs.Fold.{pick_keep, pick_by}
use Rattle.folds.specs.Run.{Kept}
use Rattle.arith.specs.Float.{infinity}
use Rattle.arith.specs.Double.{half_max}
use Rattle.iterate.specs.declared.SolveError.TheVariants.{NonFiniteCovariance, SingularCovariance, Unbounded, NotConverged}
use Rattle.minimum.specs.Minimized as Engine
use Rattle.turnover.specs.Turnover.{turnover}
use Rattle.bracket.specs.declared.Bracket.{Bracket}
use Rattle.bracket.specs.Bracket.{exceed, warmed, double, cut, closed}
use Rattle.bracket.specs.Ends.{Held, ups, width, double-held, double-warmed, exceed-high, warmed-high, accept-held, cut-accept, cut-exceed}
use Rattle.search_step.specs.Step.{Ended, found, refused, double_on, double_by, cut_by}

-- ---- the doubling
abbrev pub Up : Bracket → Bracket → Type 0
Up b t = Held t × (ups t < ups b)

-- where it ends in a bracket, the ends are a bracket's
abbrev pub Good : Ended → Type 0
Good (found b) = Held b
Good (refused e) = Unit {0}

on-up : (b u : Bracket) → (lt half_max u.high ≡ false → Up b (double u)) → Kept (Up b) Good (double_on u)
unfolding double_on Kept
on-up b u f = pick_by (Kept (Up b) Good) _ (λ _. tt) f

pub double-up : (n : ℕ) (at : List Float) (limit : Float) (b : Bracket) (a : Engine.Minimized) → Held b → Kept (Up b) Good (double_by n at limit b a)
unfolding double_by Kept
double-up n at limit b (Engine.optimal x multipliers passes) v =
    let value = turnover n x at in
    let u = exceed b.high value b in
    pick_keep (Kept (Up b) Good) _ (accept-held b.high value x multipliers passes b v)
    (on-up b (warmed x u) (λ h. double-warmed value x b v (rw (warmed-high x u, exceed-high b.high value b) at h)))
double-up n at limit b (Engine.refused Unbounded) v =
    on-up b (exceed b.high infinity b) (λ h. double-held infinity b.warm b v (rw (exceed-high b.high infinity b) at h))
double-up n at limit b (Engine.refused NonFiniteCovariance) v = tt
double-up n at limit b (Engine.refused SingularCovariance) v = tt
double-up n at limit b (Engine.refused NotConverged) v = tt

-- ---- the cuts
abbrev pub In : Bracket → Bracket → Type 0
In b t = Held t × (width t < width b)

pub cut_in : (n : ℕ) (at : List Float) (limit : Float) (b : Bracket) (a : Engine.Minimized) → Held b → closed (cut limit b) ≡ false →
    Kept (In b) (λ _. Unit {0}) (cut_by n at limit (cut limit b) a)
unfolding cut_by Kept
cut_in n at limit b (Engine.optimal x multipliers passes) v c =
    pick_keep (Kept (In b) (λ _. Unit {0})) _ (cut-accept b v limit c _ x multipliers passes) (cut-exceed b v limit c _)
cut_in n at limit b (Engine.refused Unbounded) v c = cut-exceed b v limit c infinity
cut_in n at limit b (Engine.refused NonFiniteCovariance) v c = tt
cut_in n at limit b (Engine.refused SingularCovariance) v c = tt
cut_in n at limit b (Engine.refused NotConverged) v c = tt
