use Rattle.std.specs.Prelude.{◌≡◌, ◌+◌, ◌-◌, ◌*◌, ◌<◌, ◌≤◌, List, length, take, drop, Float}
use Rattle.std.proofs.Common.{◌∙◌, arith, rules, ⊎_elim, eq-or-lt_of_le, length-take-le, get_or-take}
use Rattle.std.proofs.Math.ListN.{length-drop}
use Rattle.std.proofs.Math.Seq.{get_or-drop}
use Rattle.std.specs.Float.Ieee.{nan}
use Rattle.folds.specs.Cell.{col_end}
use Rattle.arith.specs.Float.{at}
use Rattle.columns.specs.Columns.{cell}
use Rattle.columns.proofs.Parts.{part-before, part-in, part-past, earlier}
use Rattle.columns.proofs.write_entries.Goals as goal

pub loop-j-preserved : goal.loop-j-preserved
loop-j-preserved g c =
    let x = c.args in
    let l : List Float = c.loop-j.a in
    let y : List Float = c.write_each.new.y in
    let j = c.loop-j.j-counter in
    let b = j * x.n in
    let w = c.write_each.ensures in
    let v = c.loop-j.invariant in
    let z : b + x.n - b ≡ x.n = omega arith in
    let s : length l ≡ length x.a.now = c.loop-j.auto.a in
    let f : x.n + b ≤ length x.a.now = col_end j x.n x.m (length x.a.now) c.requires.within c.loop-j-test.true in
    let h : b + x.n ≤ length l = omega arith in
    let m : length (take x.n (drop b l)) ≡ x.n = length-take-le x.n (drop b l) (simp length-drop (omega arith)) in
    let e : length y ≡ x.n = rw z at w.length ∙ m in
    rw z (record {
      written = λ i t p q. ⊎_elim
          (λ (u : t ≡ j).
          let o : at (take x.n (drop b l)) i ≡ cell x.a.now x.n i j =
          get_or-take x.n (drop b l) i nan p ∙ get_or-drop b l i nan ∙ (let k : b + i ≡ i + b = omega arith in rw k (v.kept (i + b) (omega arith))) in
          let r = rw z at (w.written i p) in
          rw (u, part-in nan b x.n l y h e i p, ← o) (search rules))
          (λ (u : t < j). rw (part-before nan b x.n l y h e (i + t * x.n) (earlier x.n i t j p u)) (v.written i t p u))
          (eq-or-lt_of_le (omega arith));
      kept = λ k p. part-past nan b x.n l y h e k (omega arith) ∙ v.kept k (omega arith);
    })
