use Rattle.folds.specs.Kit.{◌≡◌, sym, ap, length, arith}
use mathlib.Core.Path.{ap₂}
use mathlib.Core.List.{List, [], ◌∷◌}
use Prim.Native.Nat.{ℕ}
use lib.IntN.{ℤ}
use lib.Signed.{nat_abs-le}
use mir.Syntax.{w64}
use mir.Val.{to_z, of_z}
use Rattle.ints.specs.Held.{param, called}
use Rattle.block.specs.Block.{Block}
use Rattle.block.specs.Plan.{moves}
use Rattle.block.specs.Fits.{all-moves-b}
use Rattle.format.specs.Structs.{block_of}
use Rattle.format.specs.Entries.{words-length, cap-is}
use Rattle.exact.specs.Planned.{plan-timed}
use Rattle.listing.specs.Listing.{heading, rounds_word, joined, word_lines, moves_line, gap_line, count_line, plan}
use Rattle.listing.specs.Appended.{Room, Appended, room_as, appended_as, room_piece, room_pieces, and_pieces, last_piece, listed}
use Rattle.listing.specs.Longest.{plan-short}
use Rattle.listing.proofs.plan.Goals as goal
use Rattle.listing.proofs.plan.Goals.{Start, After-put_text-end, After-put_words-end, After-moves, After-put_moves-end, After-put_gap-end}

module _ (c : Start) where
  abbrev b : Block
  b = block_of c.args.b

  abbrev x : List ℤ
  x = c.args.times.now

  -- the pieces from each on
  abbrev from₅ : List (List ℕ)
  from₅ = count_line rounds_word c.args.passes ∷ []

  abbrev from₄ : List (List ℕ)
  from₄ = gap_line c.args.gap ∷ from₅

  abbrev from₃ : List (List ℕ)
  from₃ = moves_line (moves b x) b.cap ∷ from₄

  abbrev from₂ : List (List ℕ)
  from₂ = word_lines (length b.words) b x ∷ from₃

  -- the arguments, as the callees read them
  words : word_lines c.args.b.words b x ≡ word_lines (length b.words) b x
  words = ap (λ (n : ℕ). word_lines n b x) (sym (words-length c.requires.planned.sound))

  moved : {m : ℤ} → m ≡ moves b x → moves_line (to_z w64 (of_z w64 m)) c.args.b.cap ≡ moves_line (moves b x) b.cap
  moved e = ap₂ moves_line (called w64 e (all-moves-b c.requires.planned.ranged (plan-timed c.requires.planned)) tt).is (sym (cap-is c.args.b))

  gap : gap_line (to_z w64 (of_z w64 c.args.gap)) ≡ gap_line c.args.gap
  gap = ap gap_line (param w64 c.ranges.gap).is

  -- room for the pieces that are left: at the start, and after each
  room : Room 0 (joined (heading ∷ from₂)) c.args.out.now
  unfolding plan
  room =
      let s = plan-short c.requires.planned.ranged (plan-timed c.requires.planned) c.args.gap c.args.passes
      (nat_abs-le c.args.gap c.ranges.gap.sfits) c.ranges.passes.fits in
      record { fits = omega (arith, s.most, c.requires.longest_in_bounds) }

room₂ : (c : After-put_text-end) → Room c.put_text-end.result (joined (from₂ (goal.at.After-put_text-end c).Start)) c.put_text-end.new.out
unfolding heading
room₂ c = room_pieces _ _ (room (goal.at.After-put_text-end c).Start) c.put_text-end.ensures

module _ (c : After-put_words-end) where
  abbrev s : Start
  s = (goal.at.After-put_words-end c).Start

  words-put : Appended c.put_text-end.result (word_lines (length (b s).words) (b s) (x s)) c.put_text-end.new.out
      c.put_words-end.result c.put_words-end.new.out
  words-put = appended_as (words s) c.put_words-end.ensures

  room₃ : Room c.put_words-end.result (joined (from₃ s)) c.put_words-end.new.out
  room₃ = room_pieces _ _ (room₂ (goal.at.After-put_words-end c).After-put_text-end) words-put

module _ (c : After-put_moves-end) where
  abbrev s₃ : Start
  s₃ = (goal.at.After-put_moves-end c).Start

  moves_put : Appended c.put_words-end.result (moves_line (moves (b s₃) (x s₃)) (b s₃).cap) c.put_words-end.new.out
      c.put_moves-end.result c.put_moves-end.new.out
  moves_put = appended_as (moved s₃ c.moves.ensures) c.put_moves-end.ensures

  room₄ : Room c.put_moves-end.result (joined (from₄ s₃)) c.put_moves-end.new.out
  room₄ = room_pieces _ _ (room₃ (goal.at.After-put_moves-end c).After-put_words-end) moves_put

module _ (c : After-put_gap-end) where
  abbrev s₄ : Start
  s₄ = (goal.at.After-put_gap-end c).Start

  gap-put : Appended c.put_moves-end.result (gap_line c.args.gap) c.put_moves-end.new.out c.put_gap-end.result c.put_gap-end.new.out
  gap-put = appended_as (gap s₄) c.put_gap-end.ensures

  room₅ : Room c.put_gap-end.result (joined (from₅ s₄)) c.put_gap-end.new.out
  room₅ = room_pieces _ _ (room₄ (goal.at.After-put_gap-end c).After-put_moves-end) gap-put

pub put_text-end-requires : goal.put_text-end-requires
unfolding heading
put_text-end-requires c = room_piece _ _ (room (goal.at.put_text-end-requires c).Start)

pub put_words-end-requires-clause-room : goal.put_words-end-requires-clause-room
put_words-end-requires-clause-room c =
    room_as (sym (words (goal.at.put_words-end-requires-clause-room c).Start)) (room_piece _ _ (room₂ (goal.at.put_words-end-requires-clause-room c).After-put_text-end))

pub put_moves-end-requires : goal.put_moves-end-requires
put_moves-end-requires c =
    room_as (sym (moved (goal.at.put_moves-end-requires c).Start c.moves.ensures))
    (room_piece _ _ (room₃ (goal.at.put_moves-end-requires c).After-put_words-end))

pub put_gap-end-requires : goal.put_gap-end-requires
put_gap-end-requires c =
    room_as (sym (gap (goal.at.put_gap-end-requires c).Start)) (room_piece _ _ (room₄ (goal.at.put_gap-end-requires c).After-put_moves-end))

pub put_count-requires : goal.put_count-requires
unfolding rounds_word
put_count-requires c = room_piece _ _ (room₅ (goal.at.put_count-requires c).After-put_gap-end)

pub returns : goal.returns
unfolding plan heading rounds_word
returns c =
    listed
    (and_pieces _ _ (room (goal.at.returns c).Start) c.put_text-end.ensures
    (and_pieces _ _ (room₂ (goal.at.returns c).After-put_text-end) (words-put (goal.at.returns c).After-put_words-end)
    (and_pieces _ _ (room₃ (goal.at.returns c).After-put_words-end) (moves_put (goal.at.returns c).After-put_moves-end)
    (and_pieces _ _ (room₄ (goal.at.returns c).After-put_moves-end) (gap-put (goal.at.returns c).After-put_gap-end)
    (last_piece c.put_count.ensures)))))
