-- What the functions inside the call ask of the sizes.
use Rattle.std.specs.Prelude.{ℕ, ◌*◌, ◌≤◌, List, length, Float}
use Rattle.sizes.specs.Sizes as Sizes
use Rattle.quadratic.specs.Holds.{Holds, Shape}

-- the engine's sizes, and lists that hold what the counts give, but for the start
pub record Ready (n m r : ℕ) (q c e b lower upper a row_lower row_upper at slopes : List Float) : Type 0 where
  pub originals : n ≤ Sizes.originals
  pub equalities : m ≤ Sizes.equalities
  pub rows : r ≤ Sizes.rows
  pub q_holds : n * n ≤ length q
  pub c_holds : n ≤ length c
  pub e_holds : n * m ≤ length e
  pub b_holds : m ≤ length b
  pub lower_holds : n ≤ length lower
  pub upper_holds : n ≤ length upper
  pub a_holds : n * r ≤ length a
  pub row_lower_holds : r ≤ length row_lower
  pub row_upper_holds : r ≤ length row_upper
  pub at_holds : n ≤ length at
  pub slopes_hold : n ≤ length slopes

-- with slopes and a start that hold enough
pub holds : {n m r : ℕ} {q c e b lower upper a row_lower row_upper at slopes raised start : List Float} →
    Ready n m r q c e b lower upper a row_lower row_upper at slopes → n ≤ length raised → n ≤ length start →
    Holds n m r c b lower upper a row_lower row_upper at raised start
holds s h k =
    record {
      originals = s.originals;
      equalities = s.equalities;
      rows = s.rows;
      c_holds = s.c_holds;
      b_holds = s.b_holds;
      lower_holds = s.lower_holds;
      upper_holds = s.upper_holds;
      a_holds = s.a_holds;
      row_lower_holds = s.row_lower_holds;
      row_upper_holds = s.row_upper_holds;
      at_holds = s.at_holds;
      slopes_hold = h;
      start_holds = k;
    }

pub ready : {n m r : ℕ} {q c e b lower upper a row_lower row_upper at slopes start : List Float} {x multipliers : ℕ} →
    Shape n m r q c e b lower upper a row_lower row_upper at slopes start x multipliers →
    Ready n m r q c e b lower upper a row_lower row_upper at slopes
ready s =
    let h = s.holds in
    record {
      originals = h.originals;
      equalities = h.equalities;
      rows = h.rows;
      q_holds = s.q_holds;
      c_holds = h.c_holds;
      e_holds = s.e_holds;
      b_holds = h.b_holds;
      lower_holds = h.lower_holds;
      upper_holds = h.upper_holds;
      a_holds = h.a_holds;
      row_lower_holds = h.row_lower_holds;
      row_upper_holds = h.row_upper_holds;
      at_holds = h.at_holds;
      slopes_hold = h.slopes_hold;
    }
