-- qp.rs, a pass of `solve_piecewise_in_units` where no original is free: `if solved.is_empty()`.
use Rattle.std.specs.Prelude.{ℕ, ◌≤◌, ◌≡◌, Bool, true, false, List, eqb, length, get_or, take, Float}
use Rattle.folds.specs.Fold.{all, both, pick}
use Rattle.folds.specs.Run.{Pass, more, done}
use Rattle.sizes.specs.Sizes as Sizes
use Rattle.arith.specs.Float.{f0}
use Rattle.vector.specs.Vector.{filled}
use Rattle.segments.specs.Freeing.{free_all}
use Rattle.segments.specs.declared.Segments.{Segments}
use Rattle.stepping.specs.Stepping.{same_point}
use Rattle.iterate.specs.declared.SolveError.TheVariants.{NotConverged}
use Rattle.iterate.specs.Iterate.{Result, optimal, refused, passed_of}
use Rattle.iterate.specs.declared.Iterate.{Iterate}
use Rattle.iterate.specs.declared.Passed.{Passed}

-- `solved.is_empty()`, of the free variables below `originals`
unfoldable pub none_free : (solved : List ℕ) → Bool
none_free solved = eqb (length solved) 0

-- `fixed[..originals].iter().all(|&f| f)`
unfoldable pub all_true : (n : ℕ) (a : List Bool) → Bool
all_true n a = all n (λ i. get_or a i false)

-- `freed_at.as_ref() == Some(&x)`
unfoldable pub freed_here : (n : ℕ) (freed : Bool) (freed_at x : List Float) → Bool
freed_here n freed freed_at x = both freed (same_point n freed_at x)

-- `freed_at = Some(x.clone()); for i in (0..n).filter(|&i| !fixed[i]) { .. }`
unfoldable pub free_everything : (n : ℕ) (segments : List Segments) (fixed : List Bool) → Iterate → Iterate
free_everything n segments fixed i =
    record {
      board = record { x = i.board.x; state = free_all n segments fixed i.board.state; refused = i.board.refused };
      released = i.released;
      freed = true;
      freed_at = i.board.x;
    }

-- `return Ok(x)`, `return Err(CutupError::NotConverged)`, or `continue`
unfoldable pub without_free : (originals n m : ℕ) (segments : List Segments) (fixed : List Bool) → Iterate → Pass Iterate Result
without_free originals n m segments fixed i =
    pick (all_true originals fixed) (done (optimal (take n i.board.x) (filled m f0)))
    (pick (freed_here n i.freed (take n i.freed_at) (take n i.board.x)) (done (refused NotConverged))
    (more (free_everything n segments fixed i)))

-- of what the code leaves
abbrev pub WithoutFree : (originals n : ℕ) (segments : List Segments) (fixed : List Bool) → Iterate → (r : Passed) → Type 0
WithoutFree originals n segments fixed i r = (m : ℕ) → m ≤ Sizes.columns → passed_of n m r ≡ without_free originals n m segments fixed i
