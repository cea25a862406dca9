use mathlib.Core.Path.{refl}
use Rattle.format.specs.More.{no_field}
use Rattle.reader.proofs.empty.Goals as goal

pub returns : goal.returns
returns c = no_field _ _ _ _ refl refl refl refl
