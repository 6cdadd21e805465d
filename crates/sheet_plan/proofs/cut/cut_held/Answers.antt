-- `cut::cut_held` meets its contract. Assumes nothing.
use native.Mathlib.Omega.{arith}
use Rattle.bounds.proofs.Inside.{few-tour}
use Rattle.cut_exact.proofs.Exact.{below_64}
use Rattle.sheet_plan.specs.Cut.{cut_lists}
use Rattle.sheet_plan.proofs.CutHeld.{cut_left}
use Rattle.sheet_plan.proofs.cut.cut_held.Goals as goal

pub split_tw-requires : goal.split_tw-requires
split_tw-requires c =
    let known = c in
    let start = known in
    let tour = start.args.tour.now in
    let s = start.requires.held.0 in
    let H = start.requires.held.1 in
    let room = start.requires.most_cut_in_bounds in
    let h = few-tour s H.within tour H.calls H.once in
    record { tour_len_bound = (h, below_64 s H.within tour H.calls); tour_in_bounds = (omega (arith, h, room.0), omega (arith, h, room.1), omega (arith, h, room.2)) }

pub returns : goal.returns
returns c s H =
    let left = c in
    let x = left in
    let known = x in
    let a = known.args in
    let r = x.split_tw in
    let old = cut_lists a.served.now a.run_ends.now a.dropped.now in
    let new = cut_lists r.new.served r.new.run_ends r.new.dropped in
    cut_left a.placement s a.tour.now a.head a.customers a.distances.now a.times.now H r.result old new
    r.ensures.fact r.ensures.served_after r.ensures.run_ends_after r.ensures.dropped_after
