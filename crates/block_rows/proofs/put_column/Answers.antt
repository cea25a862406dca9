use mathlib.Core.Path.{subst}
use Rattle.folds.specs.Kit.{ℕ, sym}
use Rattle.folds.specs.Part.{part, with_part}
use Rattle.block.specs.Ranges.{RangedList}
use Rattle.format.specs.Structs.{list_of}
use Rattle.block_rows.specs.Entries.{rows-part}
use Rattle.block_rows.proofs.put_column.Goals as goal

pub column-requires : goal.column-requires
unfolding part
column-requires c =
    let e = rows-part c.args.a.now c.args.n c.args.k c.requires.n_in_bounds in
    record {
      filled = c.requires.filled;
      ranged_list = subst (λ (n : ℕ). RangedList n (list_of c.args.l)) (sym e) c.requires.ranged_list;
    }

pub returns : goal.returns
unfolding part with_part
returns c =
    let e = rows-part c.args.a.now c.args.n c.args.k c.requires.n_in_bounds in
    rw (c.column.ensures, e)
