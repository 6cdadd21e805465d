-- `heavy::write_dropped` meets its contract. The loop's invariant: of the positions dropped those of the first k calls are written; q of these calls fit alone, and a of their numbers are
-- passed. Assumes nothing.
use Prim.Native.Nat.{◌+◌, ◌≤◌}
use lib.ListN.{drop}
use Rattle.models.specs.Load.{space_of}
use Rattle.cut_stops.specs.Stops.{numbers}
use Rattle.cut_heavy.specs.Heavy.{fits_alone, spread}
use Rattle.cut_heavy.proofs.Writing.{Written}
use Rattle.cut_heavy.proofs.heavy.write_dropped.Given as goal

abbrev pub invariant-loop-k : goal.invariant-loop-k
invariant-loop-k l =
    let fits = fits_alone (numbers l.codes l.figures) (space_of l.capacity) in
    (l.n ≤ l.k) × (l.q ≤ l.k) × (l.a ≤ l.k)
    × Written (spread fits l.tour 1 1 l.gone) l.initial.to l.n (spread fits (drop l.k l.tour) (l.k + 1) (l.q + 1) (drop l.a l.gone)) l.to
