use Rattle.service.specs.Code.{call_ready, call_leaves}
use Rattle.service.proofs.place.Goals as goal

pub write-requires : goal.write-requires
write-requires c = call_ready _ _ _ c.placed.ensures

pub returns : goal.returns
returns c = call_leaves _ _ _ c.placed.ensures _ _ c.write.ensures
