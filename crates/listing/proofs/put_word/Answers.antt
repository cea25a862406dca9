use Rattle.folds.specs.Kit.{sym, ap}
use mathlib.Core.List.{[], ◌∷◌}
use mir.Syntax.{w64}
use Rattle.ints.specs.Held.{param}
use Rattle.listing.specs.Listing.{decimal, integer, space, newline, joined, word_line}
use Rattle.listing.specs.Appended.{Room, room_as, appended_as, room_piece, room_pieces, and_pieces, last_piece}
use Rattle.listing.proofs.put_word.Goals as goal
use Rattle.listing.proofs.put_word.Goals.{Start, After-put_decimal-end, After-put_text-end, After-put_decimal-end-2, After-put_text-end-2, After-put_integer-end}

-- room for the pieces that are left, at the start and after each call
room : (c : Start) → Room c.args.at (joined (decimal c.args.number ∷ space ∷ decimal c.args.key ∷ space ∷ integer c.args.time ∷ newline ∷ [])) c.args.out.now
unfolding word_line
room c = c.requires

room2 : (c : After-put_decimal-end) → Room c.put_decimal-end.result (joined (space ∷ decimal c.args.key ∷ space ∷ integer c.args.time ∷ newline ∷ [])) c.put_decimal-end.new.out
unfolding space newline
room2 c = room_pieces _ _ (room (goal.at.After-put_decimal-end c).Start) c.put_decimal-end.ensures

room3 : (c : After-put_text-end) → Room c.put_text-end.result (joined (decimal c.args.key ∷ space ∷ integer c.args.time ∷ newline ∷ [])) c.put_text-end.new.out
unfolding space newline
room3 c = room_pieces _ _ (room2 (goal.at.After-put_text-end c).After-put_decimal-end) c.put_text-end.ensures

room4 : (c : After-put_decimal-end-2) → Room c.put_decimal-end-2.result (joined (space ∷ integer c.args.time ∷ newline ∷ [])) c.put_decimal-end-2.new.out
unfolding space newline
room4 c = room_pieces _ _ (room3 (goal.at.After-put_decimal-end-2 c).After-put_text-end) c.put_decimal-end-2.ensures

room5 : (c : After-put_text-end-2) → Room c.put_text-end-2.result (joined (integer c.args.time ∷ newline ∷ [])) c.put_text-end-2.new.out
unfolding space newline
room5 c = room_pieces _ _ (room4 (goal.at.After-put_text-end-2 c).After-put_decimal-end-2) c.put_text-end-2.ensures

room6 : (c : After-put_integer-end) → Room c.put_integer-end.result (joined (newline ∷ [])) c.put_integer-end.new.out
unfolding space newline
room6 c = room_pieces _ _ (room5 (goal.at.After-put_integer-end c).After-put_text-end-2) (appended_as (ap integer (param w64 c.ranges.time).is) c.put_integer-end.ensures)

pub put_decimal-end-requires : goal.put_decimal-end-requires
unfolding space newline
put_decimal-end-requires c = room_piece _ _ (room (goal.at.put_decimal-end-requires c).Start)

pub put_text-end-requires : goal.put_text-end-requires
unfolding space newline
put_text-end-requires c = room_piece _ _ (room2 (goal.at.put_text-end-requires c).After-put_decimal-end)

pub put_decimal-end-requires-2 : goal.put_decimal-end-requires-2
unfolding space newline
put_decimal-end-requires-2 c = room_piece _ _ (room3 (goal.at.put_decimal-end-requires-2 c).After-put_text-end)

pub put_text-end-requires-2 : goal.put_text-end-requires-2
unfolding space newline
put_text-end-requires-2 c = room_piece _ _ (room4 (goal.at.put_text-end-requires-2 c).After-put_decimal-end-2)

pub put_integer-end-requires : goal.put_integer-end-requires
unfolding space newline
put_integer-end-requires c = room_as (ap integer (sym (param w64 c.ranges.time).is)) (room_piece _ _ (room5 (goal.at.put_integer-end-requires c).After-put_text-end-2))

pub put_text-requires : goal.put_text-requires
unfolding space newline
put_text-requires c = room_piece _ _ (room6 (goal.at.put_text-requires c).After-put_integer-end)

pub returns : goal.returns
unfolding word_line space newline
returns c =
    (and_pieces _ _ (room (goal.at.returns c).Start) c.put_decimal-end.ensures
    (and_pieces _ _ (room2 (goal.at.returns c).After-put_decimal-end) c.put_text-end.ensures
    (and_pieces _ _ (room3 (goal.at.returns c).After-put_text-end) c.put_decimal-end-2.ensures
    (and_pieces _ _ (room4 (goal.at.returns c).After-put_decimal-end-2) c.put_text-end-2.ensures
    (and_pieces _ _ (room5 (goal.at.returns c).After-put_text-end-2) (appended_as (ap integer (param w64 c.ranges.time).is) c.put_integer-end.ensures)
    (last_piece c.put_text.ensures))))))
