use Rattle.free_list.proofs.ends_and_slopes.Goals as goal

pub returns : goal.returns
returns c = c.ends_and_slopes.ensures
