use Rattle.folds.specs.Kit.{sym, ◌∙◌}
use lib.Seq.{length-take-le}
use Rattle.format.specs.Structs.{block_of}
use Rattle.format.specs.Entries.{words-length}
use Rattle.block_cost.specs.Cost as Cost
use Rattle.block_cost.specs.Laws.{length-linear}
use Rattle.word_numbers.specs.Words as Words
use Rattle.word_numbers.specs.Laws.{length-lowers, length-uppers, length-keys, length-slopes, length-starts}
use Rattle.block_solve.specs.Laws.{Front, front, front_room, front_long, front_is}
use Rattle.block_solve.proofs.solve_words.Goals as goal
use Rattle.block_solve.proofs.solve_words.Goals.{After-starts}

-- the lists, in the front of their arrays
module _ (c : After-starts) where
  linear : Front c.args.block.words c.linear.new.c (Cost.linear (block_of c.args.block))
  linear = front c.linear.ensures (length-linear _ ∙ words-length c.requires.sound)

  lowers : Front c.args.block.words c.lowers.new.y (Words.lowers (block_of c.args.block))
  lowers = front c.lowers.ensures (length-lowers _ ∙ words-length c.requires.sound)

  uppers : Front c.args.block.words c.uppers.new.y (Words.uppers (block_of c.args.block))
  uppers = front c.uppers.ensures (length-uppers _ ∙ words-length c.requires.sound)

  keys : Front c.args.block.words c.keys.new.y (Words.keys (block_of c.args.block))
  keys = front c.keys.ensures (length-keys _ ∙ words-length c.requires.sound)

  slopes : Front c.args.block.words c.slopes.new.y (Words.slopes (block_of c.args.block))
  slopes = front c.slopes.ensures (length-slopes _ ∙ words-length c.requires.sound)

  starts : Front c.args.block.words c.starts.new.y (Words.starts (block_of c.args.block))
  starts = front c.starts.ensures (length-starts _ ∙ words-length c.requires.sound)

pub slice_bounds-c-end : goal.slice_bounds-c-end
slice_bounds-c-end c = c.requires.sound.words

pub slice_bounds-linear-end : goal.slice_bounds-linear-end
slice_bounds-linear-end c = sym (length-take-le _ _ c.requires.sound.words)

pub linear-requires : goal.linear-requires
linear-requires c = let p = c.requires in record { sound = p.sound; ranged = p.ranged; c_len = length-take-le _ _ p.sound.words }

pub slice_bounds-c-end-2 : goal.slice_bounds-c-end-2
slice_bounds-c-end-2 c = front_room (linear (goal.at.slice_bounds-c-end-2 c).After-starts) _

pub slice_bounds-solve_rows-end : goal.slice_bounds-solve_rows-end
slice_bounds-solve_rows-end c = front_long (linear (goal.at.slice_bounds-solve_rows-end c).After-starts) _

pub slice_bounds-lower-end : goal.slice_bounds-lower-end
slice_bounds-lower-end c = c.requires.sound.words

pub slice_bounds-lowers-end : goal.slice_bounds-lowers-end
slice_bounds-lowers-end c = sym (length-take-le _ _ c.requires.sound.words)

pub lowers-requires : goal.lowers-requires
lowers-requires c = let p = c.requires in record { sound = p.sound; y_len = length-take-le _ _ p.sound.words }

pub slice_bounds-lower-end-2 : goal.slice_bounds-lower-end-2
slice_bounds-lower-end-2 c = front_room (lowers (goal.at.slice_bounds-lower-end-2 c).After-starts) _

pub slice_bounds-solve_rows-end-2 : goal.slice_bounds-solve_rows-end-2
slice_bounds-solve_rows-end-2 c = front_long (lowers (goal.at.slice_bounds-solve_rows-end-2 c).After-starts) _

pub slice_bounds-upper-end : goal.slice_bounds-upper-end
slice_bounds-upper-end c = c.requires.sound.words

pub slice_bounds-uppers-end : goal.slice_bounds-uppers-end
slice_bounds-uppers-end c = sym (length-take-le _ _ c.requires.sound.words)

pub uppers-requires : goal.uppers-requires
uppers-requires c = let p = c.requires in record { sound = p.sound; y_len = length-take-le _ _ p.sound.words }

pub slice_bounds-upper-end-2 : goal.slice_bounds-upper-end-2
slice_bounds-upper-end-2 c = front_room (uppers (goal.at.slice_bounds-upper-end-2 c).After-starts) _

pub slice_bounds-solve_rows-end-3 : goal.slice_bounds-solve_rows-end-3
slice_bounds-solve_rows-end-3 c = front_long (uppers (goal.at.slice_bounds-solve_rows-end-3 c).After-starts) _

pub slice_bounds-at-end : goal.slice_bounds-at-end
slice_bounds-at-end c = c.requires.sound.words

pub slice_bounds-keys-end : goal.slice_bounds-keys-end
slice_bounds-keys-end c = sym (length-take-le _ _ c.requires.sound.words)

pub keys-requires : goal.keys-requires
keys-requires c = let p = c.requires in record { sound = p.sound; y_len = length-take-le _ _ p.sound.words }

pub slice_bounds-at-end-2 : goal.slice_bounds-at-end-2
slice_bounds-at-end-2 c = front_room (keys (goal.at.slice_bounds-at-end-2 c).After-starts) _

pub slice_bounds-solve_rows-end-4 : goal.slice_bounds-solve_rows-end-4
slice_bounds-solve_rows-end-4 c = front_long (keys (goal.at.slice_bounds-solve_rows-end-4 c).After-starts) _

pub slice_bounds-slopes-end : goal.slice_bounds-slopes-end
slice_bounds-slopes-end c = c.requires.sound.words

pub slice_bounds-slopes-end-2 : goal.slice_bounds-slopes-end-2
slice_bounds-slopes-end-2 c = sym (length-take-le _ _ c.requires.sound.words)

pub slopes-requires : goal.slopes-requires
slopes-requires c = let p = c.requires in record { sound = p.sound; y_len = length-take-le _ _ p.sound.words }

pub slice_bounds-slopes-end-3 : goal.slice_bounds-slopes-end-3
slice_bounds-slopes-end-3 c = front_room (slopes (goal.at.slice_bounds-slopes-end-3 c).After-starts) _

pub slice_bounds-solve_rows-end-5 : goal.slice_bounds-solve_rows-end-5
slice_bounds-solve_rows-end-5 c = front_long (slopes (goal.at.slice_bounds-solve_rows-end-5 c).After-starts) _

pub slice_bounds-start-end : goal.slice_bounds-start-end
slice_bounds-start-end c = c.requires.sound.words

pub slice_bounds-starts-end : goal.slice_bounds-starts-end
slice_bounds-starts-end c = sym (length-take-le _ _ c.requires.sound.words)

pub starts-requires : goal.starts-requires
starts-requires c = let p = c.requires in record { sound = p.sound; y_len = length-take-le _ _ p.sound.words }

pub slice_bounds-start-end-2 : goal.slice_bounds-start-end-2
slice_bounds-start-end-2 c = front_room (starts (goal.at.slice_bounds-start-end-2 c).After-starts) _

pub slice_bounds-solve_rows-end-6 : goal.slice_bounds-solve_rows-end-6
slice_bounds-solve_rows-end-6 c = front_long (starts (goal.at.slice_bounds-solve_rows-end-6 c).After-starts) _

pub solve_rows-requires : goal.solve_rows-requires
solve_rows-requires c =
    let u = (goal.at.solve_rows-requires c).After-starts in
    let p = c.requires in
    record {
      sound = p.sound;
      ranged = p.ranged;
      matrices = p.matrices;
      words = record {
        c_is = front_is (linear u) _;
        lower_is = front_is (lowers u) _;
        upper_is = front_is (uppers u) _;
        at_is = front_is (keys u) _;
        slopes_are = front_is (slopes u) _;
        start_is = front_is (starts u) _;
      };
    }

pub returns : goal.returns
returns c = c.solve_rows.ensures
