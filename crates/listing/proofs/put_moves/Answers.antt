use Rattle.folds.specs.Kit.{sym, ap}
use mathlib.Core.List.{[], ◌∷◌}
use mir.Syntax.{w64}
use Rattle.ints.specs.Held.{param}
use Rattle.listing.specs.Listing.{decimal, integer, moves_word, cap_word, newline, joined, moves_line}
use Rattle.listing.specs.Appended.{Room, room_as, appended_as, room_piece, room_pieces, and_pieces, last_piece}
use Rattle.listing.proofs.put_moves.Goals as goal
use Rattle.listing.proofs.put_moves.Goals.{Start, After-put_text-end, After-put_integer-end, After-put_text-end-2, After-put_decimal-end}

-- room for the pieces that are left, at the start and after each call
room : (c : Start) → Room c.args.at (joined (moves_word ∷ integer c.args.m ∷ cap_word ∷ decimal c.args.cap ∷ newline ∷ [])) c.args.out.now
unfolding moves_line
room c = c.requires

room2 : (c : After-put_text-end) → Room c.put_text-end.result (joined (integer c.args.m ∷ cap_word ∷ decimal c.args.cap ∷ newline ∷ [])) c.put_text-end.new.out
unfolding moves_word cap_word newline
room2 c = room_pieces _ _ (room (goal.at.After-put_text-end c).Start) c.put_text-end.ensures

room3 : (c : After-put_integer-end) → Room c.put_integer-end.result (joined (cap_word ∷ decimal c.args.cap ∷ newline ∷ [])) c.put_integer-end.new.out
unfolding moves_word cap_word newline
room3 c = room_pieces _ _ (room2 (goal.at.After-put_integer-end c).After-put_text-end) (appended_as (ap integer (param w64 c.ranges.m).is) c.put_integer-end.ensures)

room4 : (c : After-put_text-end-2) → Room c.put_text-end-2.result (joined (decimal c.args.cap ∷ newline ∷ [])) c.put_text-end-2.new.out
unfolding moves_word cap_word newline
room4 c = room_pieces _ _ (room3 (goal.at.After-put_text-end-2 c).After-put_integer-end) c.put_text-end-2.ensures

room5 : (c : After-put_decimal-end) → Room c.put_decimal-end.result (joined (newline ∷ [])) c.put_decimal-end.new.out
unfolding moves_word cap_word newline
room5 c = room_pieces _ _ (room4 (goal.at.After-put_decimal-end c).After-put_text-end-2) c.put_decimal-end.ensures

pub put_text-end-requires : goal.put_text-end-requires
unfolding moves_word cap_word newline
put_text-end-requires c = room_piece _ _ (room (goal.at.put_text-end-requires c).Start)

pub put_integer-end-requires : goal.put_integer-end-requires
unfolding moves_word cap_word newline
put_integer-end-requires c = room_as (ap integer (sym (param w64 c.ranges.m).is)) (room_piece _ _ (room2 (goal.at.put_integer-end-requires c).After-put_text-end))

pub put_text-end-requires-2 : goal.put_text-end-requires-2
unfolding moves_word cap_word newline
put_text-end-requires-2 c = room_piece _ _ (room3 (goal.at.put_text-end-requires-2 c).After-put_integer-end)

pub put_decimal-end-requires : goal.put_decimal-end-requires
unfolding moves_word cap_word newline
put_decimal-end-requires c = room_piece _ _ (room4 (goal.at.put_decimal-end-requires c).After-put_text-end-2)

pub put_text-requires : goal.put_text-requires
unfolding moves_word cap_word newline
put_text-requires c = room_piece _ _ (room5 (goal.at.put_text-requires c).After-put_decimal-end)

pub returns : goal.returns
unfolding moves_line moves_word cap_word newline
returns c =
    (and_pieces _ _ (room (goal.at.returns c).Start) c.put_text-end.ensures
    (and_pieces _ _ (room2 (goal.at.returns c).After-put_text-end) (appended_as (ap integer (param w64 c.ranges.m).is) c.put_integer-end.ensures)
    (and_pieces _ _ (room3 (goal.at.returns c).After-put_integer-end) c.put_text-end-2.ensures
    (and_pieces _ _ (room4 (goal.at.returns c).After-put_text-end-2) c.put_decimal-end.ensures
    (last_piece c.put_text.ensures)))))
