-- What a plan and prices that are not refused keep; the check by its cases.
use Rattle.std.specs.Prelude.{◌≡◌, Bool, true, false, List, ℕ, zero, suc, ◌+◌, ◌≤◌, eqb, length, ℤ, pos, negsuc, neg_ℤ, nat_abs, ◌+ℤ◌, ◌-ℤ◌, ◌*ℤ◌, ◌≤ℤ◌, ◌<◌, ◌↔◌, IsTrue, take}
use Rattle.std.proofs.Math.Path.{refl, ap}
use Rattle.std.proofs.Common.{sym, ◌∙◌, ap₂, subst, arith, le_trans, leb→le, lit≤, length-take-le, get_or-take}
use Rattle.std.specs.Int.Signed.{le_z}
use borrow.Author.Tests.{le-leb, eq-eqb, ne_eqb, eqb-true}
use Rattle.folds.specs.Fold.{false_true, all, all_yes, all-same, all-at, both, both-on, both_stop, both_true, pick, pick_true, pick_false}
use Rattle.ints.specs.Diff.{diff, split, le_z_true}
use Rattle.ints.specs.Bound.{◌≼◌, loose}
use Rattle.block.specs.Block.{Block}
use Rattle.block.specs.Plan.{time, cost}
use Rattle.block.specs.Finer.{cost_over}
use Rattle.block.specs.Gap.{price, gap}
use Rattle.block.specs.Ranges.{max_time, max_price, Ranged}
use Rattle.block.specs.CostBound.{cost-bound, cost-bound-over}
use Rattle.block.specs.Fits.{gap-b}
use Rattle.format.specs.Read as Read
use Rattle.format.specs.declared.Block as Held
use Rattle.format.specs.declared.Refusal.{Refusal}
use Rattle.format.specs.Laws.{number-nonzero}
use Rattle.format.specs.Structs.{block_of, Sound}
use Rattle.format.specs.Entries.{words-length, anchors-length, spans-length}
use Rattle.gap.specs.Prices.{price_count, prices_from}
use Rattle.gap.specs.Input.{PlanAndPrices, list_priced, list-timed}
use Rattle.plan_check.specs.Check.{gap_is, refused, between, times_in, prices_in, cap_in, fits64, count_refusal, time_refusal, price_refusal, earlier}
use Rattle.plan_check.specs.Check.{refusal_for, refusal_of, check_block, check_read, check, result_of, gap_after}
use Rattle.plan_check.specs.Promise.{CostBound, Answered}

-- ---- ranges
size-within : (m z : ℤ) → neg_ℤ m ≤ℤ z → z ≤ℤ m → pos (nat_abs z) ≤ℤ m
size-within = split _ λ a b. split _ λ c d. simp diff (omega arith)

size-from : (m z : ℤ) → pos 0 ≤ℤ z → z ≤ℤ m → pos (nat_abs z) ≤ℤ m
size-from = split _ λ a b. split _ λ c d. simp diff (omega arith)

pos_le : {a b : ℕ} → pos a ≤ℤ pos b → a ≤ b
pos_le {a} {b} h = leb→le a b h.le

between_true : (l u z : ℤ) → between l u z ≡ true → (l ≤ℤ z) × (z ≤ℤ u)
unfolding between
between_true l u z e = let p = both_true (le_z l z) (le_z z u) e in (le_z_true l z p.0, le_z_true z u p.1)

-- from 0 to m, and from −m to m
from-zero : (m : ℕ) (z : ℤ) → between (pos 0) (pos m) z ≡ true → nat_abs z ≤ m
from-zero m z e = let w = between_true (pos 0) (pos m) z e in pos_le (size-from (pos m) z w.0 w.1)

either_side : (m : ℕ) (z : ℤ) → between (neg_ℤ (pos m)) (pos m) z ≡ true → nat_abs z ≤ m
either_side m z e = let w = between_true (neg_ℤ (pos m)) (pos m) z e in pos_le (size-within (pos m) z w.0 w.1)

-- ---- a test of each, as a chain of iterators answers it
pub all_by : {t : Bool} (n : ℕ) (p : ℕ → Bool) → (IsTrue t ↔ ((k : ℕ) → k < n → p k ≡ true)) → t ≡ all n p
all_by {t} n p h = go t h
  where
    none : (u : Bool) → all n p ≡ u → (((k : ℕ) → k < n → p k ≡ true) → false ≡ true) → false ≡ all n p
    none true e f = absurd (false_true (f (λ k l. all-at n k p e l)))
    none false e f = sym e

    go : (u : Bool) → (IsTrue u ↔ ((k : ℕ) → k < n → p k ≡ true)) → u ≡ all n p
    go true h = sym (all_yes n p (h.0 refl))
    go false h = none (all n p) refl h.1

-- of the first n
pub all_first : (f : ℤ → Bool) (n : ℕ) (p : List ℤ) → n ≤ length p
    → all (length (take n p)) (λ k. f (price (take n p) k)) ≡ all n (λ k. f (price p k))
all_first f n p h =
    ap (λ m. all m (λ k. f (price (take n p) k))) (length-take-le n p h)
    ∙ all-same n (λ k. f (price (take n p) k)) (λ k. f (price p k)) (λ k l. ap f (get_or-take n p k (pos 0) l))

-- ---- no refusal
-- a row of tests that refuses with a number other than 0
pick-zero : (t : Bool) (n : ℕ) → pick t 0 (suc n) ≡ 0 → t ≡ true
unfolding pick
pick-zero true n e = refl
pick-zero false n e = absurd (no₁ e)
  where
    no₁ : suc n ≡ 0 → ⊥
    no₁ q = omega arith

module _ {r : ℕ} (a b : ℕ) where
  pub earlier-none : a ≡ 0 → r ≡ b → r ≡ earlier a b
  unfolding earlier
  earlier-none e f = pick_true _ _ (eq-eqb a 0 e) f

  pub earlier-first : (a ≡ 0 → ⊥) → r ≡ a → r ≡ earlier a b
  unfolding earlier
  earlier-first h f = pick_false _ _ (ne_eqb a 0 h) f

pub earlier-zero : (a b : ℕ) → earlier a b ≡ 0 → (a ≡ 0) × (b ≡ 0)
earlier-zero zero b e = (refl, earlier-none 0 b refl refl ∙ e)
earlier-zero (suc a) b e = absurd (no₁ (earlier-first (suc a) b (λ q. omega arith) refl ∙ e))
  where
    no₁ : suc a ≡ 0 → ⊥
    no₁ q = omega arith

module _ (n m : ℕ) (x p : List ℤ) where
  -- by the cases of the code
  pub times-wrong : (length x ≡ n → ⊥) → 9 ≡ count_refusal n m x p
  unfolding count_refusal
  times-wrong h = pick_false _ _ (sym (both_stop _ (ne_eqb _ _ h))) refl

  pub prices-wrong : length x ≡ n → (length p ≡ m + 1 → ⊥) → 9 ≡ count_refusal n m x p
  unfolding count_refusal
  prices-wrong a h = pick_false _ _ (sym (both-on (eq-eqb _ _ a) (sym (ne_eqb _ _ h)))) refl

  pub counts-right : length x ≡ n → length p ≡ m + 1 → 0 ≡ count_refusal n m x p
  unfolding count_refusal
  counts-right a b = pick_true _ _ (sym (both-on (eq-eqb _ _ a) (sym (eq-eqb _ _ b)))) refl

  pub counted : count_refusal n m x p ≡ 0 → (length x ≡ n) × (length p ≡ m + 1)
  unfolding count_refusal
  counted e = let t = both_true _ _ (pick-zero _ 8 e) in (eqb-true _ _ t.0, eqb-true _ _ t.1)

module _ (m : ℕ) (p : List ℤ) where
  pub price_far : prices_in m p ≡ false → 5 ≡ price_refusal m p
  unfolding price_refusal
  price_far h = pick_false _ _ (sym (both_stop _ h)) refl

  pub cap-judged : {t : Bool} → prices_in m p ≡ true → cap_in (price p m) ≡ t → pick t 0 5 ≡ price_refusal m p
  unfolding price_refusal
  cap-judged a h = ap (λ (t : Bool). pick t 0 5) (sym h ∙ both-on a refl)

pub passed : (b : Block) (x p : List ℤ) → refusal_of b x p ≡ 0 → PlanAndPrices b x p
unfolding refusal_for time_refusal price_refusal times_in prices_in cap_in
passed b x p e =
    let r = earlier-zero _ _ e in
    let s = earlier-zero _ _ r.0 in
    let c = counted _ _ x p s.0 in
    let t = pick-zero _ 4 s.1 in
    let q = both_true _ _ (pick-zero _ 4 r.1) in
    record {
      times = c.0;
      prices = c.1;
      timed = record { small = λ i l. from-zero max_time (time x i) (all-at _ i _ t l) };
      small = λ k l. either_side max_price (price p k) (all-at _ k _ q.0 l);
      cap_from = (between_true (pos 0) (pos max_price) (price p (price_count b)) q.1).0;
      cap_small = from-zero max_price (price p (price_count b)) q.1;
    }

-- by the struct's counts
pub refusal-is : {k : Held.Block} → Sound k → (x p : List ℤ) → refusal_for k.words (k.anchors + k.spans) x p ≡ refusal_of (block_of k) x p
refusal-is S x p =
    ap₂ (λ (n m : ℕ). refusal_for n m x p) (sym (words-length S)) (ap₂ ◌+◌ (sym (anchors-length S)) (sym (spans-length S)))

-- ---- the gap fits
fits_64 : (z : ℤ) → z ≼ 9223372036854775807 → fits64 z ≡ true
unfolding fits64 between both
fits_64 (pos n) h = rw (le-leb n 9223372036854775807 h.size)
fits_64 (negsuc n) h = rw (le-leb n 9223372036854775807 (le_trans (omega arith) h.size))

pub gap-fits : {b : Block} {x p : List ℤ} → Ranged b → PlanAndPrices b x p → fits64 (gap b x (prices_from b p)) ≡ true
gap-fits R P = fits_64 _ (loose (lit≤ tt) (gap-b R (list_priced P) (list-timed P)))

-- ---- and bounds the cost, of a block that was read
pub cost-bounded : (s : List ℕ) {b : Block} → Read.read s ≡ Read.Outcome.block b → Ranged b → (x p : List ℤ) {z : ℤ}
    → z ≡ gap b x (prices_from b p) → CostBound s x z
cost-bounded s {b} e R x p {z} q =
    record {
      block = b;
      is_read = e;
      whole = λ y k. subst (λ (g : ℤ). (cost b x -ℤ g) ≤ℤ cost b y) (sym q) (cost-bound R x (prices_from b p) y k);
      fractional = λ d y k.
          subst (λ (g : ℤ). (pos d *ℤ (pos d *ℤ cost b x)) ≤ℤ (cost_over d b y +ℤ pos d *ℤ (pos d *ℤ g))) (sym q)
          (cost-bound-over R x (prices_from b p) d y k);
    }

-- ---- the check by its cases
module _ (s : List ℕ) (x p : List ℤ) where
  check-refused : (n : ℕ) → Read.read s ≡ Read.Outcome.refused n → check s x p ≡ refused n
  unfolding check check_read
  check-refused n e = rw e

  module _ (b : Block) (e : Read.read s ≡ Read.Outcome.block b) where
    check-wrong : (refusal_of b x p ≡ 0 → ⊥) → check s x p ≡ refused (refusal_of b x p)
    unfolding check check_read check_block
    check-wrong n = rw e (sym (pick_false (eqb (refusal_of b x p) 0) _ (ne_eqb (refusal_of b x p) 0 n) refl))

    check-gap : refusal_of b x p ≡ 0 → Ranged b → check s x p ≡ gap_is (gap b x (prices_from b p))
    unfolding check check_read check_block
    check-gap z R =
        let f = gap-fits R (passed b x p z) in
        rw e
        (sym (pick_true (eqb (refusal_of b x p) 0) _ (eq-eqb (refusal_of b x p) 0 z) (pick_true (fits64 (gap b x (prices_from b p))) _ f refl)))

-- ---- what the call promises, by the cases of the code
module _ (s : List ℕ) (x p : List ℤ) (old : ℤ) where
  refuses : (r : Refusal) → check s x p ≡ refused (Read.number_of r) → Answered s x p old (Read.number_of r) old
  unfolding result_of gap_after
  refuses r c = record { result = rw c refl; gap = rw c refl; bound = λ q. absurd (number-nonzero r q) }

  -- the block is refused
  pub block-refused : (r : Refusal) → Read.Outcome.refused (Read.number_of r) ≡ Read.read s → Answered s x p old (Read.number_of r) old
  block-refused r e = refuses r (check-refused s x p (Read.number_of r) (sym e))

  module _ (b : Block) (e : Read.Outcome.block b ≡ Read.read s) where
    -- the plan or the prices are
    pub plan-refused : (r : Refusal) → Read.number_of r ≡ refusal_of b x p → Answered s x p old (Read.number_of r) old
    plan-refused r q =
        refuses r (check-wrong s x p b (sym e) (λ z. number-nonzero r (q ∙ z)) ∙ ap refused (sym q))

    -- the gap
    pub gap-given : {z : ℤ} → Ranged b → refusal_of b x p ≡ 0 → z ≡ gap b x (prices_from b p) → Answered s x p old 0 z
    unfolding result_of gap_after
    gap-given R n q =
        let c = check-gap s x p b (sym e) n R in
        record {
          result = rw c refl;
          gap = rw c q;
          bound = λ _. cost-bounded s (sym e) R x p q;
        }
