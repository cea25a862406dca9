-- qp.rs, the release in `solve_piecewise_in_units`: the held variable that lowers the objective fastest by moving into a segment next to it.
use Rattle.std.specs.Prelude.{ℕ, ◌-◌, Bool, true, false, not, List, ltb, get_or, Float, Option, Some, None, is_some}
use Rattle.std.specs.Option.{option_or}
use Rattle.std.specs.Float.{binary64}
use Rattle.std.specs.Float.Ieee.{of_bits, lt}
use Rattle.folds.specs.Fold.{pick, some}
use Rattle.folds.specs.Best.{last_largest}
use Rattle.arith.specs.Float.{fadd, fmul, fneg, at}
use Rattle.arith.specs.Scalar.{total_less}
use Rattle.segments.specs.Segments.{last, segments_at, state_at}
use Rattle.segments.specs.declared.Segments.{Segments}
use Rattle.segments.specs.declared.State.{State}
use Rattle.segments.specs.declared.State.TheVariants.{At, Free}
use Rattle.releasing.specs.declared.Outcome.{Outcome}
use Rattle.releasing.specs.declared.Outcome.TheVariants.{Enter, Answer, NotConverged}

-- `if rate > 1e-9 * scale => Some((rate, i, segment))`; the variable i is added where they are compared
unfoldable pub counted : (rate : Float) (segment : ℕ) (least : Float) → Option (Float × ℕ)
counted rate segment least = pick (lt least rate) (Some (rate, segment)) None

-- `(p < s.last()).then(|| -(nu + s.slopes[p]))`
unfoldable pub up : (s : Segments) (p : ℕ) (nu least : Float) → Option (Float × ℕ)
up s p nu least = pick (ltb p (last s)) (counted (fneg (fadd nu (at s.slopes p))) p least) None

-- `(p > 0).then(|| nu + s.slopes[p - 1])`
unfoldable pub down : (s : Segments) (p : ℕ) (nu least : Float) → Option (Float × ℕ)
down s p nu least = pick (ltb 0 p) (counted (fadd nu (at s.slopes (p - 1))) (p - 1) least) None

-- `match (up, down) { (Some(rate), _) if .. => .., (_, Some(rate)) if .. => .., _ => None }`: the first that counts
unfoldable pub held_descent : (s : Segments) (p : ℕ) (nu least : Float) → Option (Float × ℕ)
held_descent s p nu least = option_or (up s p nu least) (down s p nu least)

-- `let State::At(p) = state[i] else { return None; }`
unfoldable pub of_state : (state : State) (s : Segments) (nu least : Float) → Option (Float × ℕ)
of_state (At p) s nu least = held_descent s p nu least
of_state (Free j) s nu least = None

-- `.filter(|&i| !fixed[i])`
unfoldable pub wrong_one : (fixed : Bool) (state : State) (s : Segments) (nu least : Float) → Option (Float × ℕ)
wrong_one fixed state s nu least = pick fixed None (of_state state s nu least)

-- of variable i: `let nu = gradient[i] + pushback[i];`
unfoldable pub wrong : (segments : List Segments) (state : List State) (fixed : List Bool) (gradient pushback : List Float) (least : Float)
    (i : ℕ) → Option (Float × ℕ)
wrong segments state fixed gradient pushback least i =
    wrong_one (get_or fixed i false) (state_at state i) (segments_at segments i) (fadd (at gradient i) (at pushback i)) least

-- what variable i offers: `.filter(|&&(_, i, _)| !refused[i])`
unfoldable pub offered : (refused : Bool) (wrong : Option (Float × ℕ)) (i : ℕ) → Option (Float × ℕ × ℕ)
offered true wrong i = None
offered false (Some w) i = Some (w.0, i, w.1)
offered false None i = None

abbrev pub offers : (segments : List Segments) (state : List State) (fixed refused : List Bool) (gradient pushback : List Float) (least : Float)
    (i : ℕ) → Option (Float × ℕ × ℕ)
offers segments state fixed refused gradient pushback least i =
    offered (get_or refused i false) (wrong segments state fixed gradient pushback least i) i

abbrev pub at_least : (new old : Float × ℕ × ℕ) → Bool
at_least new old = not (total_less new.0 old.0)

-- `wrong.iter().filter(..).max_by(|a, b| a.0.total_cmp(&b.0))`: of equal rates the last
unfoldable pub entering : (n : ℕ) (segments : List Segments) (state : List State) (fixed refused : List Bool) (gradient pushback : List Float)
    (least : Float) → Option (Float × ℕ × ℕ)
entering n segments state fixed refused gradient pushback least =
    last_largest (λ a b. total_less a.0 b.0) n (offers segments state fixed refused gradient pushback least)

-- `!wrong.is_empty()`
unfoldable pub any_wrong : (n : ℕ) (segments : List Segments) (state : List State) (fixed : List Bool) (gradient pushback : List Float)
    (least : Float) → Bool
any_wrong n segments state fixed gradient pushback least = some n (λ i. is_some (wrong segments state fixed gradient pushback least i))

-- `match entering { Some(..) => .., None if wrong.is_empty() => return Ok(x), None => return Err(NotConverged) }`
unfoldable pub outcome : (entering : Option (Float × ℕ × ℕ)) (any : Bool) → Outcome
outcome (Some f) any = Enter f.1 f.2
outcome None any = pick any NotConverged Answer

-- 1e-9
abbrev pub tiny : Float
tiny = of_bits binary64 0x3e11_2e0b_e826_d695

-- the two, with `1e-9 * scale`
unfoldable pub release : (n : ℕ) (segments : List Segments) (state : List State) (fixed refused : List Bool) (gradient pushback : List Float)
    (scale : Float) → Outcome
release n segments state fixed refused gradient pushback scale =
    let least = fmul tiny scale in
    outcome (entering n segments state fixed refused gradient pushback least) (any_wrong n segments state fixed gradient pushback least)
