use Rattle.folds.specs.Kit.{sym, ap, ◌≤◌, length, arith, rules}
use lib.ListN.{take, length-take}
use lib.Seq.{length-take-le}
use lib.IntN.{ℤ}
use mir.Syntax.{w64}
use mir.Val.{SFits}
use mir.Facts.{to_z-of_z}
use Rattle.exact.specs.Planned.{Planned}
use Rattle.format.specs.Structs.{block_of}
use Rattle.listing.specs.Listing.{plan, refused}
use Rattle.listing.specs.Appended.{listed_as}
use Rattle.placement.specs.declared.Placement.{Placement}
use Rattle.placement_listing.specs.Laws.{listing-plan}
use Rattle.placement_listing.proofs.listing_of.Goals as goal
use Rattle.placement_listing.proofs.listing_of.Goals.{In-Ok}

module _ (c : In-Ok) where
  abbrev p : Placement
  p = c.in-Ok.q

  planned : Planned p.block (take p.block.words p.times)
  planned = rw c.in-Ok.is at c.requires.planned

  few : p.block.words ≤ length p.times
  few = omega (arith, planned.each, length-take p.block.words p.times)

pub slice_bounds-plan-end : goal.slice_bounds-plan-end
slice_bounds-plan-end c = sym (length-take-le _ _ (few (goal.at.slice_bounds-plan-end c).In-Ok))

pub plan-requires : goal.plan-requires
plan-requires c =
    record {
      planned = planned (goal.at.plan-requires c).In-Ok;
      longest_in_bounds = c.requires.longest_in_bounds;
    }

pub returns-in-Ok : goal.returns-in-Ok
returns-in-Ok c =
    let q = p (goal.at.returns-in-Ok c).In-Ok in
    let fits : SFits w64 q.gap = search rules in
    rw c.in-Ok.is
    (listed_as (listing-plan _ q)
    (listed_as (ap (λ (g : ℤ). plan (block_of q.block) (take q.block.words q.times) g q.passes) (to_z-of_z fits)) c.plan.ensures))

pub returns-in-Err : goal.returns-in-Err
returns-in-Err c = rw c.in-Err.is (listed_as (ap refused c.from.ensures) c.refused.ensures)
