-- `hold::drop_stuck` meets its contract. The loop's invariant is `Turn`: the table of the rows below i is filled, each beginning up to i has a cutting, and the drops from the calls held on
-- are those of the tour. It is said of any customers that the lists are worked out from, since the loop has only the lists. The measure is how many calls are left. Assumes nothing.
use Prim.Native.Nat.{◌-◌}
use lib.ListN.{take}
use Rattle.cut_stops.specs.Stops.{leg_lists}
use Rattle.cut_table.specs.Table.{calls}
use Rattle.cut_drops.specs.Refill.{rows, given, work}
use Rattle.cut_drops.proofs.Turns.{Turn}
use Rattle.cut_drops.proofs.hold.drop_stuck.Given as goal

abbrev pub invariant-loop-i : goal.invariant-loop-i
invariant-loop-i l =
    Turn (given l.distances l.times l.size l.codes l.figures l.terms) (take l.n l.initial.held) l.initial.held l.initial.dropped l.left l.i
    (work (calls l.held l.positions l.dropped) (leg_lists l.legs l.time_legs) (rows l.cost l.dist l.pred l.reach))

abbrev pub decreases-loop-i : goal.decreases-loop-i
decreases-loop-i l =
    l.left - l.i
