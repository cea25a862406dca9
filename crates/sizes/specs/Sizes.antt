-- Document 01, 'Engine sizes: at most 32 originals, 8 equality columns, 16 rows', and what follows from them.
use Rattle.std.specs.Prelude.{ℕ, ◌+◌}

abbrev pub originals : ℕ
originals = 32

abbrev pub equalities : ℕ
equalities = 8

abbrev pub rows : ℕ
rows = 16

-- a slack for each row beside the originals, and a column of E for it beside the equalities
abbrev pub variables : ℕ
variables = originals + rows

abbrev pub columns : ℕ
columns = equalities + rows

-- a problem of at most so many variables and columns is small
abbrev pub few : ℕ
few = 8
