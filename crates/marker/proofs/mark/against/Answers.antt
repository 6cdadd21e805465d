-- `mark::against` meets its contract. Assumes nothing.
use Rattle.marker.specs.Marks.{against_f}
use Rattle.marker.proofs.mark.against.Goals as goal

pub returns-then-planner-cost : goal.returns-then-planner-cost
unfolding against_f
returns-then-planner-cost c = rw c.if-planner-cost.true

pub returns-then-cost-planner : goal.returns-then-cost-planner
unfolding against_f
returns-then-cost-planner c = rw (c.if-planner-cost.false, c.if-cost-planner.true)

pub returns : goal.returns
unfolding against_f
returns c = rw (c.if-planner-cost.false, c.if-cost-planner.false)
