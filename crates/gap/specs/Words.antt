-- A number for each word, in an array: what a loop over the words, and one over tempos, anchors or spans, adds to each.
use Rattle.std.specs.Prelude.{◌≡◌, refl, List, ℕ, ◌+◌, ◌^◌, ◌≤◌, ◌<◌, T, ltb, length, set, get_or, replicate, ℤ, pos, ◌+ℤ◌}
use Rattle.std.proofs.Common.{sym, ◌∙◌, ap, le_refl, le_antisymm, arith, get_or-set_same, get_or-set_other}
use Rattle.std.proofs.lemmas.List.{get_or-replicate}
use Rattle.std.proofs.Math.IntN.{+ℤ_idl, +ℤ_idr, +ℤ_assoc}
use Rattle.std.specs.Int.{w64}
use mir.Val.{SFits, hbits, to_z, of_z}
use Rattle.folds.specs.Decide.{by_order}
use Rattle.ints.specs.Bound.{◌≼◌, ◌+b◌, lit_b, loose, same-b}
use Rattle.ints.specs.Held.{Held, Cell, cell, fits+, plus}
use Rattle.ints.specs.Sum.{Σ, Σ-empty, Σ-next}

abbrev pub at : List ℤ → (i : ℕ) → ℤ
at l i = get_or l i (pos 0)

-- the first n numbers are f 0, f 1, ..
pub record Each (n : ℕ) (f : ℕ → ℤ) (l : List ℤ) : Type 0 where
  pub is : (i : ℕ) → i < n → at l i ≡ f i

-- the first n are at most a in size
pub record Within (n : ℕ) (l : List ℤ) (a : ℕ) : Type 0 where
  pub small : (i : ℕ) → i < n → at l i ≼ a

-- the first n of o, with f 0, f 1, .. added
pub record Added (n : ℕ) (o : List ℤ) (f : ℕ → ℤ) (l : List ℤ) : Type 0 where
  pub is : (i : ℕ) → i < n → at l i ≡ at o i +ℤ f i

module _ {n : ℕ} {f : ℕ → ℤ} {l : List ℤ} (E : Each n f l) where
  pub each-small : {a : ℕ} → ((i : ℕ) → f i ≼ a) → Within n l a
  each-small s = record { small = λ i h. same-b (sym (E.is i h)) (s i) }

  pub each-added : {q : ℕ → ℤ} {m : List ℤ} → Added n l q m → Each n (λ i. f i +ℤ q i) m
  each-added {q} A = record { is = λ i h. A.is i h ∙ ap (λ (z : ℤ). z +ℤ q i) (E.is i h) }

-- ---- a loop over the words: the first i are done
pub record Passed (i : ℕ) (o : List ℤ) (f : ℕ → ℤ) (l : List ℤ) : Type 0 where
  pub done : (j : ℕ) → j < i → at l j ≡ at o j +ℤ f j
  pub left : (j : ℕ) → i ≤ j → at l j ≡ at o j

pub passed-none : (o : List ℤ) (f : ℕ → ℤ) → Passed 0 o f o
passed-none o f = record { done = λ j h. absurd (omega arith); left = λ j h. refl }

module _ {i : ℕ} {o l : List ℤ} {f : ℕ → ℤ} (P : Passed i o f l) where
  stored : {v : ℤ} → i < length l → v ≡ at o i +ℤ f i → Passed (i + 1) o f (set l i v)
  stored {v} h e = record {
    done = λ j m.
        by_order j i (λ (p : j < i). get_or-set_other l i j v (pos 0) (λ q. omega arith) ∙ P.done j p)
        (λ (p : j ≡ i). rw p (get_or-set_same l i v (pos 0) h ∙ e))
        (λ (p : i < j). absurd (omega arith));
    left = λ j m. get_or-set_other l i j v (pos 0) (λ q. omega arith) ∙ P.left j (omega arith);
  }

  -- word i's turn: r holds f i
  module _ {n a r b : ℕ} (W : Within n o a) (h : i < n) (q : Held w64 r (f i) b) (s : T (ltb a (2 ^ hbits w64))) where
    before : Cell w64 (at l i) a
    before = cell w64 (same-b (sym (P.left i (le_refl i))) (W.small i h)) s

    pub passed-fits : T (ltb (a + b) (2 ^ hbits w64)) → SFits w64 (to_z w64 (of_z w64 (at l i)) +ℤ to_z w64 r)
    passed-fits t = fits+ before q t

    pub passed_turn : T (ltb (a + b) (2 ^ hbits w64)) → i < length l
        → Passed (i + 1) o f (set l i (to_z w64 (of_z w64 (to_z w64 (of_z w64 (at l i)) +ℤ to_z w64 r))))
    passed_turn t m = stored m ((plus before q t).is ∙ ap (λ (z : ℤ). z +ℤ f i) (P.left i (le_refl i)))

  pub passed_end : {n : ℕ} → n ≤ i → Added n o f l
  passed_end h = record { is = λ j m. P.done j (omega arith) }

-- ---- a loop that adds f i 0, f i 1, .. to word i's: after k turns
pub record Totals (n : ℕ) (o : List ℤ) (k : ℕ) (f : ℕ → ℕ → ℤ) (l : List ℤ) : Type 0 where
  pub is : (i : ℕ) → i < n → at l i ≡ at o i +ℤ Σ k (f i)

pub totals_none : (n : ℕ) (o : List ℤ) (f : ℕ → ℕ → ℤ) → Totals n o 0 f o
totals_none n o f = record { is = λ i h. sym (ap (λ (z : ℤ). at o i +ℤ z) (Σ-empty (f i)) ∙ +ℤ_idr (at o i)) }

module _ {n k : ℕ} {o l : List ℤ} {f : ℕ → ℕ → ℤ} (S : Totals n o k f l) where
  pub totals_turn : {q : ℕ → ℤ} {m : List ℤ} → Added n l q m → ((i : ℕ) → q i ≡ f i k) → Totals n o (k + 1) f m
  totals_turn {q} A e = record {
    is = λ i h.
        A.is i h ∙ ap (λ (z : ℤ). z +ℤ q i) (S.is i h) ∙ +ℤ_assoc (at o i) (Σ k (f i)) (q i)
        ∙ ap (λ (z : ℤ). at o i +ℤ z) (ap (λ (z : ℤ). Σ k (f i) +ℤ z) (e i) ∙ sym (Σ-next k (f i)));
  }

  pub totals_end : {g : ℕ → ℤ} (m : ℕ) → k ≤ m → m ≤ k → ((i : ℕ) → g i ≡ Σ m (f i)) → Added n o g l
  totals_end m p q e = record {
    is = λ i h. S.is i h ∙ ap (λ (z : ℤ). at o i +ℤ z) (ap (λ (j : ℕ). Σ j (f i)) (le_antisymm p q) ∙ sym (e i));
  }

  pub totals_small : {a b c : ℕ} → Within n o a → ((i : ℕ) → Σ k (f i) ≼ b) → a + b ≤ c → Within n l c
  totals_small W s h = record { small = λ i m. loose h (same-b (sym (S.is i m)) (W.small i m +b s i)) }

-- ---- an array of zeros, and what is added to it
module _ {n m : ℕ} (h : n ≤ m) where
  zero-at : (i : ℕ) → i < n → at (replicate m (pos 0)) i ≡ pos 0
  zero-at i l = get_or-replicate m i (pos 0) (pos 0) (omega arith)

  pub zeros_small : Within n (replicate m (pos 0)) 0
  zeros_small = record { small = λ i l. same-b (sym (zero-at i l)) (lit_b (pos 0)) }

  pub added_to_zeros : {f : ℕ → ℤ} {l : List ℤ} → Added n (replicate m (pos 0)) f l → Each n f l
  added_to_zeros {f} A = record { is = λ i l. A.is i l ∙ ap (λ (z : ℤ). z +ℤ f i) (zero-at i l) ∙ +ℤ_idl (f i) }
