-- What the factor's hooks give for slices of any lengths.
use Rattle.std.specs.Prelude.{ℕ, ◌*◌, ◌≤◌, Bool, true, false, List, ◌≡◌, leb, ltb, eqb, length, set, replicate, Float}
use Rattle.std.proofs.Common.{eqb-true, leb-true}
use Rattle.folds.specs.Fold.{pick, both, both_true, Out, out}
use Rattle.folds.specs.Marks.{marked, rising}
use Rattle.sizes.specs.Sizes as Sizes
use Rattle.cholesky.specs.Cholesky.{positive_definite}
use Rattle.scaled.specs.System.{System, system}
use Rattle.variable_set.specs.Rising.{Rising}
use Rattle.factor_update.specs.Factor as Factor
use Rattle.variable_set.specs.Laws.{rising-chosen}
use Rattle.factoring.specs.Kept as Kept
use Rattle.range_space.specs.Factored.{FactoredSolution, some, none, solve_factored}
use Rattle.probe.specs.Probe.{shaped}

-- all variables below n but i
unfoldable pub all_but : (n i : ℕ) → List ℕ
all_but n i = rising n (set (replicate Sizes.originals true) i false)

pub but_rises : (n i : ℕ) → Rising n (all_but n i)
unfolding all_but rising
but_rises n i = rising-chosen n (λ t. marked (set (replicate Sizes.originals true) i false) t)

unfoldable pub update : (n joins leaves : ℕ) (q l : List Float) (room : ℕ) → Out (List Float)
update n joins leaves q l room =
    pick (leb n Sizes.originals)
    (pick (ltb joins n)
    (pick (ltb leaves n)
    (pick (shaped n (length q) (length l) n room) (Factor.updated q n (all_but n joins) l (all_but n leaves)) (out false l))
    (out false l))
    (out false l))
    (out false l)

unfoldable pub fresh : (n : ℕ) (q l : List Float) (room : ℕ) → Out (List Float)
fresh n q l room =
    pick (leb n Sizes.originals)
    (pick (shaped n (length q) (length l) n room) (Kept.fresh q n (rising n (replicate Sizes.originals true)) l) (out false l))
    (out false l)

-- ---- `solve_factored`
unfoldable pub matrices : (n m l k e w g : ℕ) → Bool
matrices n m l k e w g =
    both (leb n Sizes.originals)
    (both (leb m Sizes.columns)
    (both (eqb l (n * n)) (both (eqb k (n * n)) (both (eqb e (n * m)) (both (eqb w (n * m)) (eqb g (m * m)))))))

unfoldable pub vectors : (n m c b x multipliers : ℕ) → Bool
vectors n m c b x multipliers = both (eqb c n) (both (eqb b m) (both (eqb x n) (eqb multipliers m)))

pub record Matrices (n m l k e w g : ℕ) : Type 0 where
  pub few : n ≤ Sizes.originals
  pub columns : m ≤ Sizes.columns
  pub factor : l ≡ n * n
  pub curvature : k ≡ n * n
  pub constraints : e ≡ n * m
  pub whitened : w ≡ n * m
  pub gram : g ≡ m * m

pub record Vectors (n m c b x multipliers : ℕ) : Type 0 where
  pub right : c ≡ n
  pub below : b ≡ m
  pub point : x ≡ n
  pub prices : multipliers ≡ m

pub matrices_true : (n m l k e w g : ℕ) → matrices n m l k e w g ≡ true → Matrices n m l k e w g
unfolding matrices
matrices_true n m l k e w g t =
    let a = both_true _ _ t in
    let b = both_true _ _ a.1 in
    let c = both_true _ _ b.1 in
    let d = both_true _ _ c.1 in
    let f = both_true _ _ d.1 in
    let h = both_true _ _ f.1 in
    record {
      few = leb-true _ _ a.0;
      columns = leb-true _ _ b.0;
      factor = eqb-true _ _ c.0;
      curvature = eqb-true _ _ d.0;
      constraints = eqb-true _ _ f.0;
      whitened = eqb-true _ _ h.0;
      gram = eqb-true _ _ h.1;
    }

pub vectors_true : (n m c b x multipliers : ℕ) → vectors n m c b x multipliers ≡ true → Vectors n m c b x multipliers
unfolding vectors
vectors_true n m c b x multipliers t =
    let a = both_true _ _ t in
    let d = both_true _ _ a.1 in
    let e = both_true _ _ d.1 in
    record { right = eqb-true _ _ a.0; below = eqb-true _ _ d.0; point = eqb-true _ _ e.0; prices = eqb-true _ _ e.1 }

unfoldable pub answered : Bool → (x multipliers : List Float) → FactoredSolution
answered found x multipliers = pick found (some x multipliers) none

unfoldable pub solve : (l : List Float) → System → (noise : Float) (w g x multipliers : ℕ) → FactoredSolution
solve l (system n m k c e b) noise w g x multipliers =
    pick (matrices n m (length l) (length k) (length e) w g)
    (pick (vectors n m (length c) (length b) x multipliers)
    (pick (positive_definite l n) (solve_factored l (system n m k c e b) noise) none)
    none)
    none
