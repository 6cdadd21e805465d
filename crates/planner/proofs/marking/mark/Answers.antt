use Rattle.call_shared.proofs.Padded.{padded-gathered}
use Rattle.definitions.specs.Bytes.{numbers_of}
use Rattle.placements.specs.Chosen.{placement_of}
use Rattle.planner.specs.Calls.{lent_sheet}
use Rattle.planner.proofs.MarkKept.{kept}
use Rattle.planner.proofs.marking.mark.Goals as goal

pub returns : goal.returns
returns c =
    let a = c.args in
    let cs = a.customers.now in
    kept (lent_sheet a.head cs a.distances.now a.times.now) a.tour.now (numbers_of a.calls.now) (numbers_of a.ends.now) (numbers_of a.breaks.now)
    (placement_of a.placement) (c.mark.ensures cs (rw (c.count-n.ensures, c.gathered-all.ensures) (padded-gathered cs)))
