use Rattle.folds.specs.Kit.{◌≡◌, kit, pick}
use Rattle.segments.specs.Laws.{place-placed}
use Rattle.segments.specs.Start.{place}
use Rattle.segments.proofs.Segments.place.Goals as goal
use Rattle.segments.proofs.Segments.place.Goals.{After-inside}

same : (c : After-inside) →
    c.inside.result ≡ place c.args.self c.args.x
unfolding place pick
same c =
    rw (
      ← c.fixed.ensures,
      c.if-fixed.false,
      ← c.point.ensures,
      c.if-x-point.false,
      ← c.last.ensures,
      ← c.point-2.ensures,
      c.if-x-point-2.false,
    ) c.inside.ensures

pub returns-then-fixed : goal.returns-then-fixed
unfolding place pick
returns-then-fixed c = record {
  value = rw (← c.fixed.ensures, c.if-fixed.true);
  placed = search kit;
}

pub returns-then-x-point : goal.returns-then-x-point
unfolding place pick
returns-then-x-point c =
    record {
      value = rw (← c.fixed.ensures, c.if-fixed.false, ← c.point.ensures, c.if-x-point.true);
      placed = search kit;
    }

pub returns-then-x-point-2 : goal.returns-then-x-point-2
unfolding place pick
returns-then-x-point-2 c =
    let e = c.last.ensures in record {
      value = rw (
        ← c.fixed.ensures,
        c.if-fixed.false,
        ← c.point.ensures,
        c.if-x-point.false,
        ← e,
        ← c.point-2.ensures,
        c.if-x-point-2.true,
        e,
        c.last-then-x-point-2.ensures,
      );
      placed = search kit;
    }

pub returns : goal.returns
returns c =
    let e = same c in record {
      value = e;
      placed = rw e (place-placed _ c.requires _);
    }
