-- `heavy::write_light` meets its contract. The loop's invariant: of the calls that fit alone those among the first calls are written. Assumes nothing.
use Prim.Native.Nat.{◌≤◌}
use lib.ListN.{drop}
use Rattle.basics.specs.Lists.{only}
use Rattle.models.specs.Load.{space_of}
use Rattle.cut_stops.specs.Stops.{numbers}
use Rattle.cut_heavy.specs.Heavy.{fits_alone}
use Rattle.cut_heavy.proofs.Writing.{Written}
use Rattle.cut_heavy.proofs.heavy.write_light.Given as goal

abbrev pub invariant-loop-c : goal.invariant-loop-c
invariant-loop-c l =
    let fits = fits_alone (numbers l.codes l.figures) (space_of l.capacity) in
    (l.n ≤ l.c-index) × Written (only fits l.tour) l.initial.to l.n (only fits (drop l.c-index l.tour)) l.to
