use Rattle.capi.proofs.places_check.Goals as goal

pub returns-in-Err : goal.returns-in-Err
returns-in-Err c = rw c.from.ensures (c.in-Err.ensures c.args.gap.now)
