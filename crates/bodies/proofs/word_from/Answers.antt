use Rattle.bodies.proofs.word_from.Goals as goal

pub returns : goal.returns
returns c = rw (c.u32_at-lower.ensures.0, c.u32_at-upper.ensures.0, c.u32_at-key.ensures.0, c.u32_at-start.ensures.0, c.u32_at-slope.ensures.0)
