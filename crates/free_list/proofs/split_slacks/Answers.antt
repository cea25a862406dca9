use Rattle.std.specs.Prelude.{MatchOption}
use Rattle.folds.specs.Kit.{◌<◌, ◌≤◌, ℕ, Bool, length, get_or, rules, sym}
use lib.Dec.{leb}
use lib.Seq.{take-length}
use borrow.Author.Tests.{le-leb, lt-leb}
use Rattle.folds.specs.Fold.{some_no}
use Rattle.folds.specs.Position.{partition_point, position_stop, position-none}
use Rattle.free_list.proofs.split_slacks.Goals as goal
use Rattle.free_list.proofs.split_slacks.Goals.{After-position}

found : (c : After-position) → let l = c.args.indices.now in
    MatchOption c.position.result ((k : ℕ) → k < length l → get_or l k 0 < c.args.originals)
    (λ i. (i < length l) × (c.args.originals ≤ get_or l i 0) × ((k : ℕ) → k < i → get_or l k 0 < c.args.originals))
found c = search rules

pub returns-in-Some : goal.returns-in-Some
unfolding partition_point
returns-in-Some c =
    let l = c.args.indices.now in
    let p : ℕ → Bool = λ k. leb c.args.originals (get_or l k 0) in
    let h = rw c.in-Some.is at (found (goal.at.returns-in-Some c).After-position) in
    let before = some_no c.in-Some.count p (λ k g. lt-leb _ _ (h.2 k g)) in
    rw (← position_stop c.in-Some.count (length l) p h.0 (sym before) (le-leb _ _ h.1))

pub returns-in-None : goal.returns-in-None
unfolding partition_point
returns-in-None c =
    let l = c.args.indices.now in
    let p : ℕ → Bool = λ k. leb c.args.originals (get_or l k 0) in
    let h = rw c.in-None.is at (found (goal.at.returns-in-None c).After-position) in
    let none = some_no (length l) p (λ k g. lt-leb _ _ (h k g)) in
    rw (← position-none (length l) p (sym none)) (sym (take-length l))
