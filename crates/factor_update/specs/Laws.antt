-- Laws of the definitions: lengths.
use Rattle.std.specs.Prelude.{◌≡◌, List, ℕ, length, Float}
use Rattle.vector.specs.Laws.{length-select}
use Rattle.columns.specs.Columns.{column}
use Rattle.factor_update.specs.Factor.{column_on}

pub length-column_on : (q : List Float) (n : ℕ) (held : List ℕ) (i : ℕ) → length (column_on q n held i) ≡ length held
unfolding column_on
length-column_on q n held i = length-select (length held) (column n q i) held
