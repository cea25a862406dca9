-- Bytes written over a part of a slice, one piece after the other.
use Rattle.std.specs.Prelude.{◌≡◌, ℕ, zero, suc, ◌+◌, ◌*◌, ◌/◌, ◌%◌, ◌≤◌, ◌<◌, length, take, drop, get_or, set, ℤ}
use Rattle.std.proofs.Math.Path.{refl, sym, ap}
use Rattle.std.proofs.Common.{◌∙◌, ap₂, not-suc-le-zero, le_of_suc-le-suc, le_refl, add-one, drop-drop, take_all, length-take-le}
use mathlib.Core.List.{List, [], ◌∷◌, ◌++◌, append_assoc, append-nil}
use native.Mathlib.Omega.{arith}
use Rattle.std.proofs.Math.Nat.{mul-suc}
use Rattle.std.proofs.Math.ListN.{length-append}
use Rattle.std.proofs.Math.Seq.{paste, paste-zero, paste-suc, take-length, take-suc}
use Rattle.std.proofs.lemmas.List.Edits.{length-paste, take-paste, drop-paste}
use borrow.Author.Tests.{le-leb, lt-leb}
use Rattle.folds.specs.Fold.{over, fold, fold_turn, pick_true, pick_false}
use Rattle.answer.specs.File.{Answer, bytes, each, in4, in8, field, file, file_size, code, refusal, written, Written}

-- o with s written over it from `at` on
unfoldable pub pasted : (at : ℕ) (bytes slice : List ℕ) → List ℕ
pasted at s o = paste o at s (length s)

pub pasted-is : (at : ℕ) (s o : List ℕ) → paste o at s (length s) ≡ pasted at s o
unfolding pasted
pasted-is at s o = refl

pub length-pasted : (at : ℕ) (s o : List ℕ) → at + length s ≤ length o → length (pasted at s o) ≡ length o
unfolding pasted
length-pasted at s o h = length-paste o at s (length s) h (le_refl (length s))

-- nothing, and a piece after another
pub pasted-none : (at : ℕ) (o : List ℕ) → o ≡ pasted at [] o
unfolding pasted
pasted-none at o = paste-zero o at []

pub pasted-append : (at n : ℕ) (s t o : List ℕ) → at + length s ≡ n → n + length t ≤ length o
    → pasted n t (pasted at s o) ≡ pasted at (s ++ t) o
unfolding pasted
pasted-append at n s t o e h =
    let room : at ≤ length o = omega arith in
    let head : take n (pasted at s o) ≡ take at o ++ take (length s) s =
    ap (λ (k : ℕ). take k (pasted at s o)) (sym e) ∙ take-paste o at s (length s) room (le_refl (length s)) in
    let rest : drop (n + length t) (pasted at s o) ≡ drop (n + length t) o =
    sym (drop-drop (length t) n (pasted at s o))
    ∙ ap (λ (k : ℕ). drop (length t) (drop k (pasted at s o))) (sym e)
    ∙ ap (drop (length t)) (drop-paste o at s (length s) room (le_refl (length s)) ∙ ap (λ (k : ℕ). drop k o) e)
    ∙ drop-drop (length t) n o in
    let whole : n + length t ≡ at + length (s ++ t) = omega (arith, length-append s t) in
    ap₂ (λ (u v : List ℕ). (u ++ take (length t) t) ++ v) head rest
    ∙ rw (take-length s, take-length t, take-length (s ++ t), append_assoc (take at o) s t, whole)

pub pasted-two : {l m : List ℕ} (at n : ℕ) (s t o : List ℕ) → at + length s ≡ n → n + length t ≤ length o
    → m ≡ pasted at s o → l ≡ pasted n t m → l ≡ pasted at (s ++ t) o
pasted-two at n s t o e h f g = g ∙ ap (pasted n t) f ∙ pasted-append at n s t o e h

-- from the front
pub pasted_front : (s o : List ℕ) → pasted 0 s o ≡ over s o
unfolding pasted over
pasted_front s o = let z : 0 + length s ≡ length s = omega arith in rw (take-length s, z)

-- ---- the bytes of n: after j of them n is divided by 256 j times
unfoldable pub shifted : (j n : ℕ) → ℕ
shifted j n = fold j (λ i m. m / 256) n

shifted-next : (j n : ℕ) → shifted (suc j) n ≡ shifted j (n / 256)
unfolding shifted fold
shifted-next zero n = refl
shifted-next (suc j) n = ap (λ (m : ℕ). m / 256) (shifted-next j n)

pub shifted-none : (n : ℕ) → n ≡ shifted 0 n
unfolding shifted fold
shifted-none n = refl

pub shifted_turn : {m : ℕ} (j n : ℕ) → m ≡ shifted j n → m / 256 ≡ shifted (j + 1) n
unfolding shifted
shifted_turn j n e = fold_turn j (λ i m. m / 256) n e

byte_is : (k n j : ℕ) → j < k → get_or (bytes k n) j 0 ≡ shifted j n % 256
unfolding bytes
byte_is zero n j h = absurd (not-suc-le-zero h)
byte_is (suc k) n zero h = ap (λ (m : ℕ). m % 256) (shifted-none n)
byte_is (suc k) n (suc j) h = byte_is k (n / 256) j (le_of_suc-le-suc h) ∙ ap (λ (m : ℕ). m % 256) (sym (shifted-next j n))

pub length-bytes : (k n : ℕ) → length (bytes k n) ≡ k
unfolding bytes
length-bytes zero n = refl
length-bytes (suc k) n = ap suc (length-bytes k (n / 256))

-- a turn of the loop that writes them
pub bytes_turn : (o : List ℕ) (at k n j m : ℕ) → at + k ≤ length o → j < k → m ≡ shifted j n
    → set (paste o at (bytes k n) j) (at + j) (m % 256) ≡ paste o at (bytes k n) (j + 1)
bytes_turn o at k n j m room h e =
    ap (set (paste o at (bytes k n) j) (at + j)) (ap (λ (i : ℕ). i % 256) e ∙ sym (byte_is k n j h))
    ∙ paste-suc o at (bytes k n) j 0 (omega arith) (omega (arith, length-bytes k n))
    ∙ ap (paste o at (bytes k n)) (sym (add-one j))

pub bytes_end : {l : List ℕ} (o : List ℕ) (at k n j : ℕ) → j ≤ k → k ≤ j → l ≡ paste o at (bytes k n) j → l ≡ pasted at (bytes k n) o
unfolding pasted
bytes_end o at k n j p q e = let z : j ≡ length (bytes k n) = omega (arith, length-bytes k n) in e ∙ ap (paste o at (bytes k n)) z

-- ---- the numbers of a list
module _ {A : Type 0} (f : A → List ℕ) (k : ℕ) (wide : (z : A) → length (f z) ≡ k) where
  pub length-each : (x : List A) → length (each f x) ≡ k * length x
  unfolding each
  length-each [] = omega arith
  length-each (z ∷ x) = length-append (f z) (each f x) ∙ omega (arith, wide z, length-each x, mul-suc k (length x))

  each-append : (x y : List A) → each f (x ++ y) ≡ each f x ++ each f y
  unfolding each
  each-append [] y = refl
  each-append (z ∷ x) y = ap (λ (l : List ℕ). f z ++ l) (each-append x y) ∙ sym (append_assoc (f z) (each f x) (each f y))

  -- one more of them
  each-next : (x : List A) (i : ℕ) (d : A) → i < length x → each f (take (i + 1) x) ≡ each f (take i x) ++ f (get_or x i d)
  unfolding each
  each-next x i d h = rw (add-one i, take-suc x i d h, each-append (take i x) (get_or x i d ∷ []), append-nil)

  -- the loop that writes them: at its start, in a turn, in which b is written, and where it is left
  pub each-none : (at : ℕ) (x : List A) (o : List ℕ) → o ≡ pasted at (each f (take 0 x)) o
  unfolding each
  each-none at x o = pasted-none at o

  pub each_turn : {b l l' : List ℕ} (at i : ℕ) (x : List A) (d : A) (o : List ℕ) → i < length x → at + k * i + k ≤ length o
      → b ≡ f (get_or x i d) → l ≡ pasted at (each f (take i x)) o → l' ≡ pasted (at + k * i) b l → l' ≡ pasted at (each f (take (i + 1) x)) o
  each_turn at i x d o h room p q e =
      let n : length (each f (take i x)) ≡ k * i = length-each (take i x) ∙ ap (λ (m : ℕ). k * m) (length-take-le i x (omega arith)) in
      e
      ∙ ap₂ (pasted (at + k * i)) p q
      ∙ pasted-append at (at + k * i) (each f (take i x)) (f (get_or x i d)) o (omega arith) (omega (arith, wide (get_or x i d)))
      ∙ ap (λ (s : List ℕ). pasted at s o) (sym (each-next x i d h))

  pub each_end : {l : List ℕ} (at i : ℕ) (x : List A) (o : List ℕ) → length x ≤ i → l ≡ pasted at (each f (take i x)) o → l ≡ pasted at (each f x) o
  each_end at i x o h e = e ∙ ap (λ (s : List A). pasted at (each f s) o) (take_all i x h)

-- ---- a field: its header, then its body
pub length-field : (tag : ℕ) (b : List ℕ) → length (field tag b) ≡ 3 + length b
unfolding field
length-field tag b =
    length-append (bytes 1 tag) (bytes 2 (length b) ++ b)
    ∙ omega (arith, length-bytes 1 tag, length-bytes 2 (length b), length-append (bytes 2 (length b)) b)

pub pasted-field : {h t : List ℕ} (at len tag : ℕ) (b o : List ℕ) → len ≡ length b → at + 3 + length b ≤ length o
    → h ≡ pasted at (bytes 1 tag ++ bytes 2 len) o → t ≡ pasted (at + 3) b h → t ≡ pasted at (field tag b) o
unfolding field
pasted-field at len tag b o e room p q =
    let l : length (bytes 1 tag ++ bytes 2 len) ≡ 3 =
    length-append (bytes 1 tag) (bytes 2 len) ∙ omega (arith, length-bytes 1 tag, length-bytes 2 len) in
    q
    ∙ ap (pasted (at + 3) b) p
    ∙ pasted-append at (at + 3) (bytes 1 tag ++ bytes 2 len) b o (omega arith) room
    ∙ ap (λ (s : List ℕ). pasted at s o) (append_assoc (bytes 1 tag) (bytes 2 len) b ∙ ap (λ (m : ℕ). bytes 1 tag ++ (bytes 2 m ++ b)) e)

-- ---- the file's length
pub in4-wide : (z : ℤ) → length (in4 z) ≡ 4
in4-wide z = length-bytes 4 (code 2147483648 z)

pub in8-wide : (z : ℤ) → length (in8 z) ≡ 8
in8-wide z = length-bytes 8 (code 9223372036854775808 z)

pub length-times : (x : List ℤ) → length (each in4 x) ≡ 4 * length x
length-times x = length-each in4 4 in4-wide x

pub length-prices : (p : List ℤ) → length (each in8 p) ≡ 8 * length p
length-prices p = length-each in8 8 in8-wide p

pub length-file : (a : Answer) → length (file a) ≡ file_size (length a.times) (length a.prices)
unfolding file file_size
length-file a =
    length-append (field 17 (each in4 a.times)) _
    ∙ omega (
      arith,
      length-field 17 (each in4 a.times),
      length-times a.times,
      length-append (field 18 (each in8 a.prices)) (field 19 (in8 a.gap) ++ field 20 (bytes 2 a.passes)),
      length-field 18 (each in8 a.prices),
      length-prices a.prices,
      length-append (field 19 (in8 a.gap)) (field 20 (bytes 2 a.passes)),
      length-field 19 (in8 a.gap),
      in8-wide a.gap,
      length-field 20 (bytes 2 a.passes),
      length-bytes 2 a.passes,
    )

-- ---- the whole file, field by field
module _ (a : Answer) (o : List ℕ) where
  pub too_small : length o < file_size (length a.times) (length a.prices) → Written a o 8 o
  unfolding refusal written
  too_small h =
      let e = lt-leb (length (file a)) (length o) (omega (arith, length-file a)) in
      record { result = pick_false _ _ e refl; slice = pick_false _ _ e refl }

  abbrev f₁₇ : List ℕ
  f₁₇ = field 17 (each in4 a.times)

  abbrev f₁₈ : List ℕ
  f₁₈ = field 18 (each in8 a.prices)

  abbrev f₁₉ : List ℕ
  f₁₉ = field 19 (in8 a.gap)

  abbrev f₂₀ : List ℕ
  f₂₀ = field 20 (bytes 2 a.passes)

  l₁₇ : length f₁₇ ≡ 3 + 4 * length a.times
  l₁₇ = length-field 17 (each in4 a.times) ∙ ap (λ (k : ℕ). 3 + k) (length-times a.times)

  l₁₈ : length f₁₈ ≡ 3 + 8 * length a.prices
  l₁₈ = length-field 18 (each in8 a.prices) ∙ ap (λ (k : ℕ). 3 + k) (length-prices a.prices)

  l₁₉ : length f₁₉ ≡ 11
  l₁₉ = length-field 19 (in8 a.gap) ∙ ap (λ (k : ℕ). 3 + k) (in8-wide a.gap)

  l₂₀ : length f₂₀ ≡ 5
  l₂₀ = length-field 20 (bytes 2 a.passes) ∙ ap (λ (k : ℕ). 3 + k) (length-bytes 2 a.passes)

  -- where the fields begin, and what the slice holds after each
  module _ (p q r : ℕ) (room : file_size (length a.times) (length a.prices) ≤ length o) (e : 3 + 4 * length a.times ≡ p)
      (f : p + 3 + 8 * length a.prices ≡ q) (g : q + 11 ≡ r) where
    all-pasted : {k₁ k₂ k₃ k₄ : List ℕ} → k₁ ≡ pasted 0 f₁₇ o → k₂ ≡ pasted p f₁₈ k₁ → k₃ ≡ pasted q f₁₉ k₂ → k₄ ≡ pasted r f₂₀ k₃
        → k₄ ≡ pasted 0 (file a) o
    unfolding file file_size
    all-pasted h₁ h₂ h₃ h₄ =
        let j₂ = length-append f₁₇ f₁₈ in
        let j₃ = length-append (f₁₇ ++ f₁₈) f₁₉ in
        let two = pasted-two 0 p f₁₇ f₁₈ o (omega (arith, l₁₇)) (omega (arith, l₁₈)) h₁ h₂ in
        let three = pasted-two 0 q (f₁₇ ++ f₁₈) f₁₉ o (omega (arith, l₁₇, l₁₈)) (omega (arith, l₁₉)) two h₃ in
        let four = pasted-two 0 r ((f₁₇ ++ f₁₈) ++ f₁₉) f₂₀ o (omega (arith, l₁₇, l₁₈, l₁₉)) (omega (arith, l₂₀)) three h₄ in
        four ∙ ap (λ (s : List ℕ). pasted 0 s o) (append_assoc (f₁₇ ++ f₁₈) f₁₉ f₂₀ ∙ append_assoc f₁₇ f₁₈ (f₁₉ ++ f₂₀))

    pub file-written : {k₁ k₂ k₃ k₄ : List ℕ} → k₁ ≡ pasted 0 f₁₇ o → k₂ ≡ pasted p f₁₈ k₁ → k₃ ≡ pasted q f₁₉ k₂ → k₄ ≡ pasted r f₂₀ k₃
        → Written a o 0 k₄
    unfolding refusal written
    file-written h₁ h₂ h₃ h₄ =
        let e = le-leb (length (file a)) (length o) (omega (arith, length-file a)) in
        record { result = pick_true _ _ e refl; slice = pick_true _ _ e (all-pasted h₁ h₂ h₃ h₄ ∙ pasted_front (file a) o) }

  -- and what a writer whose slice is large enough gives
  pub whole-written : {r : ℕ} {exit : List ℕ} → Written a o r exit → length (file a) ≤ length o → (r ≡ 0) × (exit ≡ over (file a) o)
  unfolding refusal written
  whole-written w h =
      let e = le-leb (length (file a)) (length o) h in
      (w.result ∙ sym (pick_true _ _ e refl), w.slice ∙ sym (pick_true _ _ e refl))
