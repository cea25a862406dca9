use Rattle.folds.specs.Kit.{◌≡◌, sym, ◌≤◌, ◌+◌, length, arith, rules}
use lib.ListN.{take}
use lib.Seq.{length-take-le}
use mir.Syntax.{w64}
use mir.Val.{SFits}
use mir.Facts.{to_z-of_z}
use Rattle.placement.specs.Held.{written-is, written_whole, written-short}
use Rattle.placement.proofs.write_answer.Goals as goal
use Rattle.placement.proofs.write_answer.Goals.{Start}

-- the arrays have room for what counts of them
module _ (c : Start) where
  times-room : c.args.p.block.words ≤ length c.args.p.times
  times-room = let e : length c.args.p.times ≡ 32 = search rules in omega (arith, c.requires.sound.words)

  prices-room : c.args.p.block.anchors + c.args.p.block.spans + 1 ≤ length c.args.p.prices
  prices-room = let e : length c.args.p.prices ≡ 25 = search rules in omega (arith, c.requires.sound.anchors, c.requires.sound.spans)

  times_long : length (take c.args.p.block.words c.args.p.times) ≡ c.args.p.block.words
  times_long = length-take-le _ _ times-room

  prices-long : length (take (c.args.p.block.anchors + c.args.p.block.spans + 1) c.args.p.prices)
      ≡ c.args.p.block.anchors + c.args.p.block.spans + 1
  prices-long = length-take-le _ _ prices-room

  gap-fits : SFits w64 c.args.p.gap
  gap-fits = record { sfits = c.requires.sized.gap }

pub slice_bounds-write-end : goal.slice_bounds-write-end
slice_bounds-write-end c = sym (times_long (goal.at.slice_bounds-write-end c).Start)

pub slice_bounds-write-end-2 : goal.slice_bounds-write-end-2
slice_bounds-write-end-2 c = sym (prices-long (goal.at.slice_bounds-write-end-2 c).Start)

pub write-requires : goal.write-requires
write-requires c = (c.requires.sized.times, c.requires.sized.prices, c.requires.sized.passes)

pub returns-then-write-ne0 : goal.returns-then-write-ne0
returns-then-write-ne0 c =
    let W = written-is _ (to_z-of_z (gap-fits (goal.at.returns-then-write-ne0 c).Start)) c.write.ensures in
    record { written = written-short W c.if-write-ne0.true; size = tt }

pub returns : goal.returns
returns c =
    let W = written-is _ (to_z-of_z (gap-fits (goal.at.returns c).Start)) c.write.ensures in
    record { written = written_whole W c.if-write-ne0.false; size = c.file_size.ensures }
