use Rattle.capi.proofs.places_place.Goals as goal

pub returns-in-Err : goal.returns-in-Err
returns-in-Err c = rw c.from.ensures (c.in-Err.ensures c.args.written.now)
