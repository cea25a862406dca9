use Rattle.folds.specs.Kit.{◌≡◌, ◌≤◌, refl, sym, ap, ◌∙◌, ◌+◌, ◌-◌, set, length, arith}
use mathlib.Core.List.{List, ◌++◌, append-nil}
use Prim.Native.Nat.{ℕ, ◌%◌}
use native.Mathlib.Nat.{mod-lt}
use lib.ListN.{take, drop}
use lib.Seq.{paste, paste-zero}
use Rattle.std.proofs.Common.{length-take-le, length-drop}
use Rattle.std.proofs.lemmas.List.{drop_all}
use Rattle.std.proofs.lemmas.List.Edits.{paste_all}
use Rattle.std.proofs.lemmas.Slice.{put_mid-paste}
use Rattle.answer.specs.File.{bytes}
use Rattle.answer.specs.Pasted.{pasted-is, shifted-none, shifted_turn, bytes_turn, length-bytes}
use Rattle.answer.proofs.put.Goals as goal

-- the part of the slice that is written
long : (at k : ℕ) (out : List ℕ) → at + k ≤ length out → length (take (at + k - at) (drop at out)) ≡ k
long at k out h =
    let d = length-drop at out in
    let t = length-take-le (at + k - at) (drop at out) (omega arith) in
    omega arith

-- all of it
whole : (k n : ℕ) (o : List ℕ) → length o ≡ k → paste o 0 (bytes k n) k ≡ bytes k n
whole k n o e =
    paste_all o 0 (bytes k n) k (sym (length-bytes k n))
    ∙ ap (λ r. bytes k n ++ r) (drop_all (0 + k) o (omega arith)) ∙ append-nil _

pub loop-b-init : goal.loop-b-init
loop-b-init c = (shifted-none _, paste-zero _ 0 (bytes c.args.k c.args.n))

pub overflow_cast-b : goal.overflow_cast-b
overflow_cast-b c = record { fits = mod-lt _ (omega arith) }

pub loop-b-preserved : goal.loop-b-preserved
loop-b-preserved c =
    let t = c.loop-b in
    let o : List ℕ = take (c.args.at + c.args.k - c.args.at) (drop c.args.at c.args.out.now) in
    let l : length o ≡ c.args.k = long c.args.at c.args.k c.args.out.now c.requires in
    let z : 0 + t.b-index ≡ t.b-index = omega arith in (
      shifted_turn _ _ t.invariant.0,
      ap (λ (l : List ℕ). set l t.b-index (t.m % 256)) t.invariant.1
          ∙ ap (λ (i : ℕ). set (paste o 0 (bytes c.args.k c.args.n) t.b-index) i (t.m % 256)) (sym z)
          ∙ bytes_turn o 0 c.args.k c.args.n t.b-index t.m (omega arith) (omega (arith, c.loop-b-test.true)) t.invariant.0,
    )

pub returns : goal.returns
returns c =
    let t = c.loop-b in
    let l = long c.args.at c.args.k c.args.out.now c.requires in
    let n = length-bytes c.args.k c.args.n in
    let j : t.b-index ≡ c.args.k = omega (arith, t.auto.b-index-end, c.loop-b-test.false) in
    put_mid-paste c.args.at _ c.args.out.now _ (bytes c.args.k c.args.n) _
    (t.invariant.1 ∙ ap (paste _ 0 (bytes c.args.k c.args.n)) j ∙ whole c.args.k c.args.n _ l) (omega arith) refl
    ∙ pasted-is c.args.at (bytes c.args.k c.args.n) c.args.out.now
