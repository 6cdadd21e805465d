-- `plan::plan_held` meets its contract. Assumes nothing.
use native.Mathlib.Omega.{arith}
use mathlib.Core.Path.{refl}
use Rattle.sheet_plan.specs.Plan.{plan_lists}
use Rattle.sheet_plan.proofs.Planning.{rises, ends-room, left}
use Rattle.sheet_plan.proofs.plan.plan_held.Goals as goal

pub write_breaks-requires : goal.write_breaks-requires
write_breaks-requires c =
    let shared = c in
    let x = shared in
    let s = x in
    let a = s.args in
    let sheet = s.requires.held.0 in
    let H = s.requires.held.1 in
    let C = x.cut_held-cut.ensures sheet H in
    let room = ends-room a.placement sheet a.tour.now a.head a.customers a.distances.now a.times.now H C in
    let rise = rises a.placement sheet a.tour.now a.head a.customers a.distances.now a.times.now H C in
    record { rise_to = rise; ends_in_bounds = (omega (arith, room, s.requires.roomy.2), omega (arith, room, s.requires.roomy.3)) }

pub returns : goal.returns
returns c s H =
    let w = c in
    let passed = w in
    let shared = passed in
    let x = shared in
    let a = x.args in
    let b = w.write_breaks in
    let cut = x.cut_held-cut.new in
    let breaks = b.new in
    let old = plan_lists a.served.now a.run_ends.now a.break_places.now a.break_starts.now a.dropped.now in
    let new = plan_lists cut.served cut.run_ends breaks.places breaks.starts cut.dropped in
    let C = x.cut_held-cut.ensures s H in
    left a.placement s a.tour.now a.head a.customers a.distances.now a.times.now H C old new refl refl b.ensures.places b.ensures.starts
