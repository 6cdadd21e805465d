-- `run::stop_lines` meets its contract. The loop's invariant: the lines of the first i calls are put. Assumes nothing.
use Prim.Native.Nat.{◌+◌, ◌*◌, ◌≤◌}
use mathlib.Core.List.{map}
use Rattle.models.specs.Records.{customer_of}
use Rattle.listing_lines.proofs.Putting.{Wrote}
use Rattle.times_lines.proofs.Turns.{stops_left}
use Rattle.times_lines.proofs.run.stop_lines.Given as goal

abbrev pub invariant-loop-i : goal.invariant-loop-i
invariant-loop-i l =
    let left = stops_left (map customer_of l.customers) l.duration l.place l.start l.n l.visit-items l.begins l.count in
    (l.end ≤ l.at + 400 * l.i) × Wrote (left 0) (left l.i) l.at l.initial.out l.out l.end
