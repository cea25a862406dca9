-- `root::sqrt` meets its contract: `above-zero` gives the root of a finite value above zero, and `proofs/Cases.antt` says the rest.
use mathlib.Core.Path.{sym, ap, ◌∙◌, subst}
use lib.Dec.{T}
use lib.Ieee.{Float, binary64, fits}
use lib.Ieee.Bits.{of_bits-to_bits}
use Rattle.root.specs.Root.{root}
use Rattle.root.proofs.Cases.{no_nan, bits_pos, infinite, zeros, others}
use Rattle.root.proofs.sqrt.Goals as goal
use Rattle.root.proofs.sqrt.Goals.{Start}

abbrev x : Start → Float
x c = c.args.x

-- what owning an `f64` tells: the format holds it
held : (c : Start) → T (fits binary64 (x c))
held c = subst T (sym c.well_formed.0.1) tt

pub float_to_bits-b : goal.float_to_bits-b
float_to_bits-b c = no_nan (x c.before) c.if-x.true

pub above_zero-requires : goal.above_zero-requires
above_zero-requires c = (bits_pos (x c.before.before) (held c.before.before) c.if-x.true, c.if-b-lt9218868437227405312.true)

pub returns-then-b-lt9218868437227405312 : goal.returns-then-b-lt9218868437227405312
returns-then-b-lt9218868437227405312 c = c.above_zero.ensures ∙ ap (root binary64) (of_bits-to_bits binary64 (x c.before.before.before) (held c.before.before.before))

pub returns-else-b-lt9218868437227405312 : goal.returns-else-b-lt9218868437227405312
returns-else-b-lt9218868437227405312 c = infinite (x c.before.before) (held c.before.before) c.if-x.true c.if-b-lt9218868437227405312.false

pub returns-then-x-2 : goal.returns-then-x-2
returns-then-x-2 c = zeros (x c.before.before) c.if-x-2.true

pub returns-else-x-2 : goal.returns-else-x-2
returns-else-x-2 c = others (x c.before.before) c.if-x.false c.if-x-2.false
