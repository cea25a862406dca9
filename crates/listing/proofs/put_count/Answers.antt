use mathlib.Core.List.{[], ◌∷◌}
use Rattle.listing.specs.Listing.{decimal, newline, joined, count_line}
use Rattle.listing.specs.Appended.{Room, room_piece, room_pieces, and_pieces, last_piece}
use Rattle.listing.proofs.put_count.Goals as goal
use Rattle.listing.proofs.put_count.Goals.{Start, After-put_text-end, After-put_decimal-end}

-- room for the pieces that are left, at the start and after each call
room : (c : Start) → Room c.args.at (joined (c.args.name.now ∷ decimal c.args.n ∷ newline ∷ [])) c.args.out.now
unfolding count_line
room c = c.requires

room2 : (c : After-put_text-end) → Room c.put_text-end.result (joined (decimal c.args.n ∷ newline ∷ [])) c.put_text-end.new.out
unfolding newline
room2 c = room_pieces _ _ (room (goal.at.After-put_text-end c).Start) c.put_text-end.ensures

room3 : (c : After-put_decimal-end) → Room c.put_decimal-end.result (joined (newline ∷ [])) c.put_decimal-end.new.out
unfolding newline
room3 c = room_pieces _ _ (room2 (goal.at.After-put_decimal-end c).After-put_text-end) c.put_decimal-end.ensures

pub put_text-end-requires : goal.put_text-end-requires
unfolding newline
put_text-end-requires c = room_piece _ _ (room (goal.at.put_text-end-requires c).Start)

pub put_decimal-end-requires : goal.put_decimal-end-requires
unfolding newline
put_decimal-end-requires c = room_piece _ _ (room2 (goal.at.put_decimal-end-requires c).After-put_text-end)

pub put_text-requires : goal.put_text-requires
unfolding newline
put_text-requires c = room_piece _ _ (room3 (goal.at.put_text-requires c).After-put_decimal-end)

pub returns : goal.returns
unfolding count_line newline
returns c =
    (and_pieces _ _ (room (goal.at.returns c).Start) c.put_text-end.ensures
    (and_pieces _ _ (room2 (goal.at.returns c).After-put_text-end) c.put_decimal-end.ensures
    (last_piece c.put_text.ensures)))
