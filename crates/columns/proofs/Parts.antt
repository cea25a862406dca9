-- The elements of a list after its part from b on, of k elements, became ys.
use Rattle.std.specs.Prelude.{◌≡◌, ℕ, ◌+◌, ◌-◌, ◌*◌, ◌<◌, ◌≤◌, List, ◌++◌, length, take, get_or}
use Rattle.std.proofs.Common.{sym, ◌∙◌, ap, arith, le_refl, length-take-le, get_or-take, mul-le-mul_right, suc-mul}
use Rattle.std.proofs.Math.ListN.{get_or-append}
use Rattle.std.proofs.Math.Seq.{get_or-append-add, get_or-drop}
use Rattle.std.proofs.lemmas.Slice.{take-put_mid_below, drop-put_mid}
use borrow.Rule.Slice.PartMut.{put_mid, post_of}

module _ {A : Type 0} (d : A) (b k : ℕ) (xs ys : List A) (h : b + k ≤ length xs) (e : length ys ≡ k) where
  pub part-before : (i : ℕ) → i < b → get_or (put_mid b k xs ys) i d ≡ get_or xs i d
  part-before i l =
      sym (get_or-take b (put_mid b k xs ys) i d l) ∙ ap (λ z. get_or z i d) (take-put_mid_below b k xs ys b (le_refl b) (omega arith))
      ∙ get_or-take b xs i d l

  pub part-in : (i : ℕ) → i < k → get_or (put_mid b k xs ys) (i + b) d ≡ get_or ys i d
  part-in i l =
      let t : length (take b xs) ≡ b = length-take-le b xs (omega arith) in
      let z : i + b ≡ length (take b xs) + i = omega arith in
      rw z (get_or-append-add (take b xs) (ys ++ post_of b k xs) i d) ∙ get_or-append ys (post_of b k xs) d i (omega arith)

  pub part-past : (i : ℕ) → b + k ≤ i → get_or (put_mid b k xs ys) i d ≡ get_or xs i d
  part-past i l =
      let z : i ≡ b + k + (i - (b + k)) = omega arith in
      let t = drop-put_mid b k xs ys (b + k) (le_refl (b + k)) (omega arith) e in
      rw z (sym (get_or-drop (b + k) (put_mid b k xs ys) (i - (b + k)) d) ∙ ap (λ x. get_or x (i - (b + k)) d) t ∙ get_or-drop (b + k) xs (i - (b + k)) d)

-- an entry of an earlier column stands before the part
pub earlier : (n i t j : ℕ) → i < n → t < j → i + t * n < j * n
earlier n i t j p q = omega (arith, mul-le-mul_right n q, suc-mul t n)
