use Rattle.std.proofs.lemmas.Result.{err_from_is_err_and}
use Rattle.minimum.specs.Minimized.{minimized_of}
use Rattle.original_units.specs.Original.{original}
use Rattle.original_units.proofs.original.Goals as goal

pub restored-requires : goal.restored-requires
restored-requires c = c.requires

pub returns : goal.returns
unfolding original minimized_of
returns c = rw c.in_ok-optimum.was c.restored.ensures

pub returns-in_err-optimum : goal.returns-in_err-optimum
unfolding original minimized_of
returns-in_err-optimum c =
    let p = err_from_is_err_and c.from_residual.result c.from_residual.ensures.1 in
    rw (p.1, p.2, c.in_err-optimum.was)
