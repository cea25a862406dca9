-- Laws of the definitions: what the calls of a solve give, put together, and what the test of the sizes tells.
use Rattle.std.specs.Prelude.{◌≡◌, List, true, ℕ, ◌*◌, ◌≤◌, length, Float}
use Rattle.std.proofs.Common.{◌∙◌, arith, leb-true, eqb-true}
use Rattle.folds.specs.Fold.{both_true}
use Rattle.arith.specs.Float.{f0}
use Rattle.sizes.specs.Sizes.{originals, equalities}
use Rattle.units.specs.Units.{diagonal_scales, column_scales, units_k, units_c, units_e, units_b}
use Rattle.scaled.specs.System.{Sized, system}
use Rattle.solution.specs.Solution.{Kkt}
use Rattle.noisy_kkt.specs.NoisyKkt.{solve_noisy_kkt}
use Rattle.kkt_original.specs.Original.{original}
use Rattle.kkt.specs.Kkt.{solve_units, shaped}

pub units-from : {r s : Kkt} {scales columns uk ue uc ub : List Float} (n m : ℕ) (k c e b : List Float) →
    scales ≡ diagonal_scales n k → columns ≡ column_scales n m e → uk ≡ units_k n k scales → ue ≡ units_e n m e scales columns →
    uc ≡ units_c n c scales → ub ≡ units_b m b columns → s ≡ solve_noisy_kkt (system n m uk uc ue ub) f0 →
    r ≡ original n m e b scales columns s → r ≡ solve_units (system n m k c e b)
unfolding solve_units
units-from n m k c e b f g h i j l s r = r ∙ rw (s, h, i, j, l, f, g)

pub record Shape (n m k c e b x multipliers : ℕ) : Type 0 where
  pub few : n ≤ originals
  pub columns : m ≤ equalities
  pub k_long : k ≡ n * n
  pub c_long : c ≡ n
  pub e_long : e ≡ n * m
  pub b_long : b ≡ m
  pub x_long : x ≡ n
  pub multipliers_long : multipliers ≡ m

pub shape : (n m k c e b x multipliers : ℕ) → shaped n m k c e b x multipliers ≡ true → Shape n m k c e b x multipliers
unfolding shaped
shape n m k c e b x multipliers t =
    let r = both_true _ _ t in
    let s = both_true _ _ r.1 in
    let u = both_true _ _ s.1 in
    let v = both_true _ _ u.1 in
    let w = both_true _ _ v.1 in
    let y = both_true _ _ w.1 in
    let z = both_true _ _ y.1 in
    record {
      few = leb-true _ _ r.0;
      columns = leb-true _ _ s.0;
      k_long = eqb-true _ _ u.0;
      c_long = eqb-true _ _ v.0;
      e_long = eqb-true _ _ w.0;
      b_long = eqb-true _ _ y.0;
      x_long = eqb-true _ _ z.0;
      multipliers_long = eqb-true _ _ z.1;
    }

pub sized : (n m : ℕ) (k c e b : List Float) (x multipliers : ℕ) → Shape n m (length k) (length c) (length e) (length b) x multipliers →
    Sized n m k c e b
sized n m k c e b x multipliers s =
    record {
      few = s.few;
      columns = omega (arith, s.columns);
      k_holds = omega (arith, s.k_long);
      c_holds = omega (arith, s.c_long);
      e_holds = omega (arith, s.e_long);
      b_holds = omega (arith, s.b_long);
    }
