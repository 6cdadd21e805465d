-- `schedule::clock_from` meets its contract. The loop's invariant: what is left of the run, from the clock and the distance so far, ends as the whole run does. Assumes nothing.
use mathlib.Core.Path.{◌≡◌}
use Prim.Native.Nat.{◌+◌}
use lib.ListN.{drop}
use Rattle.clock.specs.Records.{clock_of}
use Rattle.evaluation.specs.Records.{lent}
use Rattle.evaluation.specs.Schedule.{end_f}
use Rattle.evaluation.proofs.schedule.clock_from.Given as goal

abbrev pub invariant-loop-cid : goal.invariant-loop-cid
invariant-loop-cid l =
    (l.clock.index ≡ l.initial.clock.index + l.cid-index)
    × (end_f (lent l.customers l.distances l.times l.size) (clock_of l.clock) l.distance (drop l.cid-index l.calls)
    ≡ end_f (lent l.customers l.distances l.times l.size) (clock_of l.initial.clock) l.initial.distance l.calls)
