use Rattle.folds.specs.Kit.{sym, ap}
use mathlib.Core.List.{[], ◌∷◌}
use mir.Syntax.{w64}
use Rattle.ints.specs.Held.{param}
use Rattle.listing.specs.Listing.{integer, gap_word, newline, joined, gap_line}
use Rattle.listing.specs.Appended.{Room, room_as, appended_as, room_piece, room_pieces, and_pieces, last_piece}
use Rattle.listing.proofs.put_gap.Goals as goal
use Rattle.listing.proofs.put_gap.Goals.{Start, After-put_text-end, After-put_integer-end}

-- room for the pieces that are left, at the start and after each call
room : (c : Start) → Room c.args.at (joined (gap_word ∷ integer c.args.gap ∷ newline ∷ [])) c.args.out.now
unfolding gap_line
room c = c.requires

room2 : (c : After-put_text-end) → Room c.put_text-end.result (joined (integer c.args.gap ∷ newline ∷ [])) c.put_text-end.new.out
unfolding gap_word newline
room2 c = room_pieces _ _ (room (goal.at.After-put_text-end c).Start) c.put_text-end.ensures

room3 : (c : After-put_integer-end) → Room c.put_integer-end.result (joined (newline ∷ [])) c.put_integer-end.new.out
unfolding gap_word newline
room3 c = room_pieces _ _ (room2 (goal.at.After-put_integer-end c).After-put_text-end) (appended_as (ap integer (param w64 c.ranges.gap).is) c.put_integer-end.ensures)

pub put_text-end-requires : goal.put_text-end-requires
unfolding gap_word newline
put_text-end-requires c = room_piece _ _ (room (goal.at.put_text-end-requires c).Start)

pub put_integer-end-requires : goal.put_integer-end-requires
unfolding gap_word newline
put_integer-end-requires c = room_as (ap integer (sym (param w64 c.ranges.gap).is)) (room_piece _ _ (room2 (goal.at.put_integer-end-requires c).After-put_text-end))

pub put_text-requires : goal.put_text-requires
unfolding gap_word newline
put_text-requires c = room_piece _ _ (room3 (goal.at.put_text-requires c).After-put_integer-end)

pub returns : goal.returns
unfolding gap_line gap_word newline
returns c =
    (and_pieces _ _ (room (goal.at.returns c).Start) c.put_text-end.ensures
    (and_pieces _ _ (room2 (goal.at.returns c).After-put_text-end) (appended_as (ap integer (param w64 c.ranges.gap).is) c.put_integer-end.ensures)
    (last_piece c.put_text.ensures)))
