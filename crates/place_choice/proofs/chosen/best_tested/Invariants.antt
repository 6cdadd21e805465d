-- `chosen::best_tested` meets its contract. The loop's invariant is `Along`: the runs from run k on are left. Assumes nothing.
use mathlib.Core.Path.{◌≡◌}
use lib.ListN.{length}
use Rattle.evaluation.specs.Tables.{asked_f}
use Rattle.improve_runs.specs.RunLists.{runs, runs_in}
use Rattle.place_choice.specs.Loads.{room_f}
use Rattle.cut_stops.specs.Stops.{numbers}
use Rattle.place_choice.specs.Insertion.{given_in, leg_f, places_of, better_of}
use Rattle.place_choice.proofs.Folding.{Along}
use Rattle.place_choice.proofs.chosen.best_tested.Given as goal

abbrev pub invariant-loop-k : goal.invariant-loop-k
invariant-loop-k l =
    let G = given_in l.given (numbers l.codes l.figures) l.distances l.times in
    let r = runs l.calls l.ends l.many l.count in
    Along (better_of G l.mover (runs_in r)) l.initial.best (places_of (leg_f G) (room_f (asked_f l.demands) G.capacity) l.mover.call) r l.best l.from l.k × (length l.befores ≡ 129) × (length l.afters ≡ 129)
