use Rattle.folds.specs.Kit.{◌≡◌, Bool, true, false, sym, ◌∙◌, pick}
use lib.ListN.{take}
use Rattle.sizes.specs.Sizes as Sizes
use Rattle.vector.specs.Laws.{take_zeros}
use Rattle.iterate.specs.Laws.{passed-more, passed-optimal, passed-failed}
use Rattle.freeing.specs.Freeing.{all_true, freed_here, without_free}
use Rattle.freeing.specs.Laws.{everything_consistent}
use Rattle.freeing.proofs.without_free.Goals as goal
use Rattle.freeing.proofs.without_free.Goals.{Else-all_true, Start}

pub returns-then-all_true : goal.returns-then-all_true
unfolding without_free pick
returns-then-all_true c =
    let e = c.ended.ensures in
    let fixed : all_true c.args.originals c.args.fixed.now ≡ true = sym c.all_true.ensures ∙ c.if-all_true.true in record {
      without_free = λ m h. passed-optimal c.args.n m c.ended.result e.0 ∙ rw (e.1, take_zeros m Sizes.columns h, fixed);
      consistent = rw e.1 c.requires.4;
    }

-- some original is not fixed
not-fixed : (c : Else-all_true) → let s = c.args in all_true s.originals s.fixed.now ≡ false
not-fixed c = sym c.all_true.ensures ∙ c.if-all_true.false

-- whether every variable was freed before at this point
abbrev here : Start → Bool
here c = let i = c.args.iterate in freed_here c.args.n i.freed (take c.args.n i.freed_at) (take c.args.n i.board.x)

pub returns-then-freed_here : goal.returns-then-freed_here
unfolding without_free pick
returns-then-freed_here c =
    let l = (goal.at.returns-then-freed_here c).Else-all_true in
    let s = (goal.at.returns-then-freed_here c).Start in
    let e = c.ended-then-freed_here.ensures in
    let freed : here s ≡ true = sym c.freed_here.ensures ∙ c.if-freed_here.true in record {
      without_free = λ m h. passed-failed c.args.n m c.ended-then-freed_here.result e.0 ∙ rw (not-fixed l, freed);
      consistent = rw e.1 c.requires.4;
    }

pub returns : goal.returns
unfolding without_free pick
returns c =
    let l = (goal.at.returns c).Else-all_true in
    let s = (goal.at.returns c).Start in
    let e = c.ended-2.ensures in
    let i = e.1 ∙ c.free_everything.ensures in
    let not-freed : here s ≡ false = sym c.freed_here.ensures ∙ c.if-freed_here.false in record {
      without_free = λ m h. passed-more c.args.n m c.ended-2.result e.0 ∙ rw (i, not-fixed l, not-freed);
      consistent = rw i (everything_consistent c.args.n c.args.segments c.args.fixed.now c.args.iterate c.requires.3 c.requires.4);
    }
