use Rattle.factoring.specs.Laws.{good-reset}
use Rattle.free_solve.specs.Laws.{after-found, after_missed}
use Rattle.free_solve.proofs.solve_updated.Goals as goal

pub returns : goal.returns
returns c =
    let d = c.dropped-dropped.ensures in record {
      l_after = after_missed _ _ _ _ _ _ _ (c.from_factor-found.ensures _) _ _ _ _ c.if-found.false c.noisy-verdict.ensures d;
      by_index = λ o g. good-reset o _ _ _ d;
    }

pub returns-then-found : goal.returns-then-found
returns-then-found c =
    record {
      l_after = after-found _ _ _ _ _ _ _ (c.from_factor-found.ensures _) c.if-found.true;
      by_index = λ o g. g;
    }
