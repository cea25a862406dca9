-- Laws of the definitions: what the tests of the sizes tell, and what passes them.
use Rattle.std.specs.Prelude.{◌≡◌, List, true, false, ℕ, ◌+◌, ◌*◌, ◌≤◌, ◌<◌, length, Float}
use Rattle.std.proofs.Common.{sym, arith, leb-true, eqb-true, le-leb, eq-eqb}
use Rattle.std.proofs.lemmas.Bool.{lt-leb}
use Rattle.folds.specs.Fold.{pick_false, both_true, both-first, both_yes}
use Rattle.sizes.specs.Sizes as Sizes
use Rattle.reductions.specs.Reductions.{any_nan}
use Rattle.quadratic.specs.Quadratic.{quadratic, sized, long, shaped, blank}
use Rattle.quadratic.specs.Holds.{Shape}

-- ---- the tests of the sizes
pub record Size (n m r q c e b a : ℕ) : Type 0 where
  pub originals : n ≤ Sizes.originals
  pub equalities : m ≤ Sizes.equalities
  pub rows : r ≤ Sizes.rows
  pub q_long : q ≡ n * n
  pub c_long : c ≡ n
  pub e_long : e ≡ n * m
  pub b_long : b ≡ m
  pub a_long : a ≡ n * r

pub size : (n m r q c e b a : ℕ) → sized n m r q c e b a ≡ true → Size n m r q c e b a
unfolding sized
size n m r q c e b a t =
    let p1 = both_true _ _ t in
    let p2 = both_true _ _ p1.1 in
    let p3 = both_true _ _ p2.1 in
    let p4 = both_true _ _ p3.1 in
    let p5 = both_true _ _ p4.1 in
    let p6 = both_true _ _ p5.1 in
    let p7 = both_true _ _ p6.1 in
    record {
      originals = leb-true _ _ p1.0;
      equalities = leb-true _ _ p2.0;
      rows = leb-true _ _ p3.0;
      q_long = eqb-true _ _ p4.0;
      c_long = eqb-true _ _ p5.0;
      e_long = eqb-true _ _ p6.0;
      b_long = eqb-true _ _ p7.0;
      a_long = eqb-true _ _ p7.1;
    }

pub record Long (n m r lower upper row_lower row_upper at slopes start x multipliers : ℕ) : Type 0 where
  pub lower_long : lower ≡ n
  pub upper_long : upper ≡ n
  pub row_lower_long : row_lower ≡ r
  pub row_upper_long : row_upper ≡ r
  pub at_long : at ≡ n
  pub slopes_long : slopes ≡ n
  pub start_long : start ≡ n
  pub x_long : x ≡ n
  pub multipliers_long : multipliers ≡ m + r

lengths : (n m r lower upper row_lower row_upper at slopes start x multipliers : ℕ) →
    long n m r lower upper row_lower row_upper at slopes start x multipliers ≡ true →
    Long n m r lower upper row_lower row_upper at slopes start x multipliers
unfolding long
lengths n m r lower upper row_lower row_upper at slopes start x multipliers t =
    let p1 = both_true _ _ t in
    let p2 = both_true _ _ p1.1 in
    let p3 = both_true _ _ p2.1 in
    let p4 = both_true _ _ p3.1 in
    let p5 = both_true _ _ p4.1 in
    let p6 = both_true _ _ p5.1 in
    let p7 = both_true _ _ p6.1 in
    let p8 = both_true _ _ p7.1 in
    record {
      lower_long = eqb-true _ _ p1.0;
      upper_long = eqb-true _ _ p2.0;
      row_lower_long = eqb-true _ _ p3.0;
      row_upper_long = eqb-true _ _ p4.0;
      at_long = eqb-true _ _ p5.0;
      slopes_long = eqb-true _ _ p6.0;
      start_long = eqb-true _ _ p7.0;
      x_long = eqb-true _ _ p8.0;
      multipliers_long = eqb-true _ _ p8.1;
    }

-- sizes that pass them
sized_yes : {n m r q c e b a : ℕ} → Size n m r q c e b a → sized n m r q c e b a ≡ true
unfolding sized
sized_yes s =
    both_yes (le-leb _ _ s.originals)
    (both_yes (le-leb _ _ s.equalities)
    (both_yes (le-leb _ _ s.rows)
    (both_yes (eq-eqb _ _ s.q_long)
    (both_yes (eq-eqb _ _ s.c_long)
    (both_yes (eq-eqb _ _ s.e_long)
    (both_yes (eq-eqb _ _ s.b_long)
    (eq-eqb _ _ s.a_long)))))))

long_yes : {n m r lower upper row_lower row_upper at slopes start x multipliers : ℕ} →
    Long n m r lower upper row_lower row_upper at slopes start x multipliers →
    long n m r lower upper row_lower row_upper at slopes start x multipliers ≡ true
unfolding long
long_yes l =
    both_yes (eq-eqb _ _ l.lower_long)
    (both_yes (eq-eqb _ _ l.upper_long)
    (both_yes (eq-eqb _ _ l.row_lower_long)
    (both_yes (eq-eqb _ _ l.row_upper_long)
    (both_yes (eq-eqb _ _ l.at_long)
    (both_yes (eq-eqb _ _ l.slopes_long)
    (both_yes (eq-eqb _ _ l.start_long)
    (both_yes (eq-eqb _ _ l.x_long)
    (eq-eqb _ _ l.multipliers_long))))))))

pub shaped_yes : (n m r : ℕ) (q c e b lower upper a row_lower row_upper at slopes start : List Float) (x multipliers : ℕ) →
    Size n m r (length q) (length c) (length e) (length b) (length a) →
    Long n m r (length lower) (length upper) (length row_lower) (length row_upper) (length at) (length slopes) (length start) x multipliers →
    shaped (quadratic n m r q c e b lower upper a row_lower row_upper at slopes start) x multipliers ≡ true
unfolding shaped
shaped_yes n m r q c e b lower upper a row_lower row_upper at slopes start x multipliers s l = both_yes (sized_yes s) (long_yes l)

-- bounds of which none is a NaN
pub blank_no : (n r : ℕ) (lower upper row_lower row_upper : List Float) → any_nan n lower ≡ false → any_nan n upper ≡ false →
    any_nan r row_lower ≡ false → any_nan r row_upper ≡ false → blank n r lower upper row_lower row_upper ≡ false
unfolding blank
blank_no n r lower upper row_lower row_upper f g h i = sym (pick_false _ _ f (pick_false _ _ g (pick_false _ _ h (sym i))))

-- all that they tell of a call's arguments
pub shape : (n m r : ℕ) (q c e b lower upper a row_lower row_upper at slopes start : List Float) (x multipliers : ℕ) →
    shaped (quadratic n m r q c e b lower upper a row_lower row_upper at slopes start) x multipliers ≡ true →
    Shape n m r q c e b lower upper a row_lower row_upper at slopes start x multipliers
unfolding shaped
shape n m r q c e b lower upper a row_lower row_upper at slopes start x multipliers t =
    let p = both_true _ _ t in
    let s = size _ _ _ _ _ _ _ _ p.0 in
    let l = lengths _ _ _ _ _ _ _ _ _ _ _ _ p.1 in
    record {
      holds =
          record {
            originals = s.originals;
            equalities = s.equalities;
            rows = s.rows;
            c_holds = omega (arith, s.c_long);
            b_holds = omega (arith, s.b_long);
            lower_holds = omega (arith, l.lower_long);
            upper_holds = omega (arith, l.upper_long);
            a_holds = omega (arith, s.a_long);
            row_lower_holds = omega (arith, l.row_lower_long);
            row_upper_holds = omega (arith, l.row_upper_long);
            at_holds = omega (arith, l.at_long);
            slopes_hold = omega (arith, l.slopes_long);
            start_holds = omega (arith, l.start_long);
          };
      q_holds = omega (arith, s.q_long);
      e_holds = omega (arith, s.e_long);
      start_long = l.start_long;
      x_long = l.x_long;
      multipliers_long = l.multipliers_long;
    }

pub many_refused : (n m r : ℕ) (q c e b lower upper a row_lower row_upper at slopes start : List Float) (x multipliers : ℕ) → Sizes.originals < n →
    shaped (quadratic n m r q c e b lower upper a row_lower row_upper at slopes start) x multipliers ≡ false
unfolding shaped sized
many_refused n m r q c e b lower upper a row_lower row_upper at slopes start x multipliers h = both-first _ (both-first _ (lt-leb _ _ h))
