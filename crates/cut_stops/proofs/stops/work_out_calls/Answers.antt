-- `stops::work_out_calls` meets its contract. The loop's invariant is `StopsTo`: the places of the first calls stand in the lists. Assumes nothing.
use Prim.Native.Nat.{ℕ, ◌<◌}
use mathlib.Core.List.{List}
use native.Mathlib.Omega.{arith}
use lib.ListN.{length, get_or}
use Rattle.distance.specs.Lookup.{drive_f}
use Rattle.evaluation.specs.Records.{lent}
use Rattle.cut_stops.specs.Stops.{numbers, Below64}
use Rattle.cut_stops.proofs.Places.{place-put, stops-more, looked-up}
use Rattle.cut_stops.proofs.stops.work_out_calls.Goals as goal

below : (calls : List ℕ) (k : ℕ) → Below64 calls → k < length calls → get_or calls k 0 < 64
unfolding Below64
below calls k b here = b k here

pub put_legs-requires : goal.put_legs-requires
put_legs-requires c = below _ _ c.requires.1 c.loop-c-test.true

pub offset_bounds-customers-c : goal.offset_bounds-customers-c
offset_bounds-customers-c c = omega (arith, below _ _ c.requires.1 c.loop-c-test.true)

pub bounds-customers-c : goal.bounds-customers-c
bounds-customers-c c = below _ _ c.requires.1 c.loop-c-test.true

pub put_customer-requires : goal.put_customer-requires
put_customer-requires c = below _ _ c.requires.1 c.loop-c-test.true

pub loop-c-preserved : goal.loop-c-preserved
loop-c-preserved c =
    let l = c.loop-c in
    let a = c.args in
    let calls = a.calls.now in
    stops-more (lent a.customers a.distances.now a.times.now a.size) (numbers l.codes l.figures) _ l.c-index _ calls l.invariant
    (place-put (numbers l.codes l.figures) _ (get_or calls l.c-index 0) _ (drive_f a.distances.now a.times.now a.size) _
    l.invariant.long (below _ _ c.requires.1 c.loop-c-test.true) c.put_customer.ensures.codes_after c.put_legs.ensures c.put_customer.ensures.figures_after)
    (looked-up a.customers a.distances.now a.times.now a.size (get_or calls l.c-index 0) _ c.well_formed.1.0.1.0.1 (below _ _ c.requires.1 c.loop-c-test.true))
