use Rattle.folds.specs.Kit.{◌≡◌, ◌+◌, ◌≤◌, ◌<◌, sym, ◌∙◌, true, arith, length, rules}
use lib.ListN.{set, take}
use Rattle.folds.specs.Cell.{area}
use Rattle.folds.specs.Tab.{taken-over}
use Rattle.folds.specs.Marks.{rising, place, place-le, place-room, place-joined}
use Rattle.sizes.specs.Sizes as Sizes
use Rattle.factor_update.specs.Factor.{column_on}
use Rattle.factor_update.specs.Held.{joined}
use Rattle.factor_update.specs.Laws.{length-column_on}
use Rattle.factor_update.proofs.joined.Goals as goal
use Rattle.factor_update.proofs.joined.Goals.{After-column_on, After-place-p, Start}

marks-length : (c : Start) → length c.args.s ≡ Sizes.originals
marks-length c = search rules

-- there is room for one more
room : (c : After-place-p) → (c.place-k.result < c.args.originals) × (c.place-p.result ≤ c.place-k.result)
room c = (
  rw c.place-k.ensures (place-room c.args.s c.args.i c.args.originals c.requires.2 c.requires.3),
  rw (c.place-p.ensures, c.place-k.ensures) (place-le c.args.s c.args.i c.args.originals (omega (arith, c.requires.2))),
)

-- the column has one entry more than were held
column-length : (c : After-column_on) → length (column_on c.args.q.now c.args.n (rising c.args.originals (set c.args.s c.args.i true)) c.args.i) ≡
    c.place-k.result + 1
unfolding place
column-length c =
    let s = (goal.at.After-column_on c).Start in
    length-column_on _ _ _ _
    ∙ place-joined c.args.s c.args.i c.args.originals c.requires.2 (omega (arith, c.requires.0.few, c.requires.2, marks-length s)) c.requires.3
    ∙ rw c.place-k.ensures

-- the part of the array that is lent is the column
lent : (c : After-column_on) → take (c.place-k.result + 1) c.column_on.new.y ≡
    column_on c.args.q.now c.args.n (rising c.args.originals (set c.args.s c.args.i true)) c.args.i
lent c = taken-over _ _ (column-length c) c.column_on.ensures

pub slice_bounds-insert_column-end : goal.slice_bounds-insert_column-end
slice_bounds-insert_column-end c = let y = (goal.at.slice_bounds-insert_column-end c).After-column_on in rw (lent y) (sym (column-length y))

pub insert_column-requires : goal.insert_column-requires
insert_column-requires c =
    let y = (goal.at.insert_column-requires c).After-column_on in
    let e : c.place-k.result + 1 ≡ length (take (c.place-k.result + 1) c.column_on.new.y) = rw (lent y) (sym (column-length y)) in
    let r = room (goal.at.insert_column-requires c).After-place-p in
    let k : c.place-k.result + 1 ≤ c.args.originals = omega (arith, r.0) in
    let n : c.place-k.result ≤ c.args.originals = omega (arith, r.0) in (
      omega (arith, r.0, c.requires.0.few),
      r.1,
      omega (arith, e),
      omega (arith, area k k, c.requires.1.l_holds),
      omega (arith, area n n, c.requires.1.room_holds),
    )

pub returns : goal.returns
unfolding joined
returns c =
    let y = (goal.at.returns c).After-column_on in
    rw (c.insert_column.ensures, lent y, c.place-p.ensures, c.place-k.ensures)

pub place-k-requires : goal.place-k-requires
place-k-requires c = omega (arith, c.requires.0.few)

pub place-p-requires : goal.place-p-requires
place-p-requires c = omega (arith, c.requires.0.few, c.requires.2)

pub bounds-next-i : goal.bounds-next-i
bounds-next-i c = omega (arith, c.requires.0.few, c.requires.2)

pub column_on-requires : goal.column_on-requires
column_on-requires c = (c.requires.0, c.requires.2, omega (arith, c.requires.0.few))

pub overflow_add-m : goal.overflow_add-m
overflow_add-m c = omega (arith, room (goal.at.overflow_add-m c).After-place-p, c.requires.0.few)

pub slice_bounds-y-end : goal.slice_bounds-y-end
slice_bounds-y-end c = omega (arith, room (goal.at.slice_bounds-y-end c).After-place-p, c.requires.0.few)
