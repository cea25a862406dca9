use Rattle.folds.specs.Kit.{sym, ◌∙◌, pick}
use Rattle.std.proofs.lemmas.Bool.{le-leb, lt-leb, lt-ltb, le-ltb}
use Rattle.probe.specs.Probe.{shape}
use Rattle.probe.specs.Hooks.{update}
use Rattle.probe.proofs.updated.Goals as goal

pub changed-requires : goal.changed-requires
changed-requires c =
    let h = shape _ _ _ _ _ (sym c.shaped.ensures ∙ c.if-shaped.true) in (
      c.if-n-gt-ORIGINALS.false,
      c.if-joins-n.false,
      c.if-leaves-n.false,
      h.matrix,
      h.work,
      h.square,
    )

pub returns-then-shaped : goal.returns-then-shaped
unfolding update pick
returns-then-shaped c =
    rw (
      le-leb _ _ c.if-n-gt-ORIGINALS.false,
      lt-ltb _ _ c.if-joins-n.false,
      lt-ltb _ _ c.if-leaves-n.false,
      ← c.shaped.ensures,
      c.if-shaped.true,
    )
    c.changed.ensures

pub returns : goal.returns
unfolding update pick
returns c =
    rw (
      le-leb _ _ c.if-n-gt-ORIGINALS.false,
      lt-ltb _ _ c.if-joins-n.false,
      lt-ltb _ _ c.if-leaves-n.false,
      ← c.shaped.ensures,
      c.if-shaped.false,
    )

pub returns-then-n-gt-ORIGINALS : goal.returns-then-n-gt-ORIGINALS
unfolding update pick
returns-then-n-gt-ORIGINALS c = rw (lt-leb _ _ c.if-n-gt-ORIGINALS.true)

pub returns-then-joins-n : goal.returns-then-joins-n
unfolding update pick
returns-then-joins-n c = rw (le-leb _ _ c.if-n-gt-ORIGINALS.false, le-ltb _ _ c.if-joins-n.true)

pub returns-then-leaves-n : goal.returns-then-leaves-n
unfolding update pick
returns-then-leaves-n c = rw (le-leb _ _ c.if-n-gt-ORIGINALS.false, lt-ltb _ _ c.if-joins-n.false, le-ltb _ _ c.if-leaves-n.true)
