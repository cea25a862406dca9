use Rattle.folds.specs.Cell.{small-fits}
use Rattle.starting.proofs.magnitudes.Goals as goal

pub slope_amax-slopes-requires : goal.slope_amax-slopes-requires
slope_amax-slopes-requires c = let p = c.requires in (p.0, p.3)

pub overflow_mul-n : goal.overflow_mul-n
overflow_mul-n c = let v = c.requires.0 in small-fits v v

pub amax-requires : goal.amax-requires
amax-requires c = c.requires.1

pub returns : goal.returns
returns c =
    record {
      q_value = c.amax.ensures;
      linear_value = rw (c.max.ensures, ← c.amax-c_amax.ensures, ← c.slope_amax-slopes.ensures);
    }
