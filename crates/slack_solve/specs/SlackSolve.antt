-- qp.rs, `solve_piecewise` past its tests. n originals, m equality columns, r rows.
use Rattle.std.specs.Prelude.{ℕ, ◌+◌, List, Float}
use Rattle.units.specs.Units.{column_scales, units_k, units_c, units_e, units_b}
use Rattle.slack_scales.specs.SlackScales.{scales_with_slacks}
use Rattle.slacks.specs.Slacks.{with_slacks_q, with_slacks_e, with_zeros, segments_array, slacks_start}
use Rattle.iterate.specs.Problem.{problem}
use Rattle.minimum.specs.Minimized as Engine
use Rattle.in_units.specs.InUnits.{solve_piecewise_in_units}
use Rattle.original_units.specs.Original.{original}
use Rattle.quadratic.specs.Quadratic.{Quadratic, quadratic}

-- ---- `solve_piecewise`, from the inside out
-- `solve_piecewise_in_units((&units.k, &units.c, &units.e, &units.b), &segments, start, n)`, with `units.c`, `units.b`, the segments and the start.
-- The segments are the code's array: what stands past the n + r is never read.
unfoldable pub solve_scaled : (n m r : ℕ) (uq ue c b lower upper a row_lower row_upper at slopes start scales columns : List Float) → Engine.Minimized
solve_scaled n m r uq ue c b lower upper a row_lower row_upper at slopes start scales columns =
    solve_piecewise_in_units
    (problem n (n + r) (m + r) uq (units_c (n + r) (with_zeros n r c) scales) ue (units_b (m + r) (with_zeros m r b) columns))
    (segments_array n r lower upper at slopes row_lower row_upper scales)
    (slacks_start n r start a scales)

-- `let units = Units::scaled(&q, &c, &e, &b, scales_with_slacks(&q, &rows.a))`; q_all and e_all are Q and E with the slacks
unfoldable pub solve_with_slacks : (n m r : ℕ) (q_all e_all c e b lower upper a row_lower row_upper at slopes start : List Float) → Engine.Minimized
solve_with_slacks n m r q_all e_all c e b lower upper a row_lower row_upper at slopes start =
    let scales = scales_with_slacks n r q_all a in
    let columns = column_scales (n + r) (m + r) e_all in
    original n m r e b a row_lower row_upper scales columns
    (solve_scaled n m r (units_k (n + r) q_all scales) (units_e (n + r) (m + r) e_all scales columns) c b lower upper a row_lower row_upper at slopes start
    scales columns)

-- `let Problem { q, c, e, b } = with_slacks((q, c, e, b), &rows.a)`
unfoldable pub solve : Quadratic → Engine.Minimized
solve (quadratic n m r q c e b lower upper a row_lower row_upper at slopes start) =
    solve_with_slacks n m r (with_slacks_q n r q) (with_slacks_e n m r e a) c e b lower upper a row_lower row_upper at slopes start
