use Prim.Native.Nat.{◌+◌, ◌*◌, ◌≤◌}
use native.Mathlib.Nat.{mul_comm, le_refl}
use Rattle.folds.specs.Kit.{refl, ap, ◌∙◌, length, arith, rules, col_end}
use Rattle.answer.specs.File.{bytes}
use Rattle.answer.specs.Pasted.{length-bytes, each-none, each_turn, each_end}
use Rattle.answer.proofs.put_each.Goals as goal
use Rattle.answer.proofs.put_each.Goals.{In-loop-i}

-- there is room for number i
room : (g : _) (c : In-loop-i g) → c.args.at + c.args.k * c.loop-i.i + c.args.k ≤ length c.args.out.now
room g c =
    omega (
      arith,
      c.requires,
      mul_comm c.args.k c.loop-i.i,
      col_end c.loop-i.i c.args.k (length c.args.numbers.now) (c.args.k * length c.args.numbers.now) (le_refl _) c.loop-i-test.true,
    )

pub loop-i-init : goal.loop-i-init
loop-i-init g c = (refl, each-none _ c.args.k (λ x. length-bytes _ _) _ c.args.numbers.now _)

pub loop-i-preserved : goal.loop-i-preserved
loop-i-preserved g c = (
  search rules,
  each_turn (λ x. bytes c.args.k (g.T.Coded.code x)) c.args.k (λ x. length-bytes _ _) _ c.loop-i.i c.args.numbers.now c.index-numbers-i.result _ c.loop-i-test.true
      (room g (goal.at.loop-i-preserved g c).In-loop-i)
      (ap (bytes c.args.k) (c.code.ensures ∙ ap g.T.Coded.code c.index-numbers-i.is))
      c.loop-i.invariant.1 c.put.ensures,
)

pub shape_of-out : goal.shape_of-out
shape_of-out g c = c.loop-i.invariant.0

pub returns : goal.returns
returns g c = each_end (λ x. bytes c.args.k (g.T.Coded.code x)) c.args.k (λ x. length-bytes _ _) _ _ _ _ c.loop-i-test.false c.loop-i.invariant.1
