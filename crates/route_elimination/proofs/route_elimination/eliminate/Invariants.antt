-- `route_elimination::eliminate` meets its contract. The invariant of the searches is `Searching`, and that of one search `Trying`: the
-- runs that are left decide. Each search that goes on has a run less. Assumes nothing.
-- ---- the places on the way: from a search, from the loop over its runs, from the shortest of them, from the run tried, and from its going
-- the runs given, those that are left when a search begins, those of them that are not empty, and those that are left then
use mathlib.Core.Path.{◌≡◌}
use lib.ListN.{length}
use Rattle.cut_stops.specs.Stops.{numbers}
use Rattle.improve_runs.specs.RunLists.{room, runs, runs_in}
use Rattle.place_choice.specs.Insertion.{given_in}
use Rattle.route_elimination.proofs.Searching.{Trying, Searching}
use Rattle.route_elimination.proofs.route_elimination.eliminate.Given as goal

abbrev pub invariant-loop-n : goal.invariant-loop-n
invariant-loop-n l =
    (runs l.calls l.ends l.many l.left ≡ runs l.initial.calls l.initial.ends l.many l.initial.left)
    × Trying (given_in l.given (numbers l.codes l.figures) l.distances l.times) (runs_in (runs l.initial.calls l.initial.ends l.many l.initial.left)) l.lengths l.pending l.n
    × (length l.rest_calls ≡ room) × (length l.rest_ends ≡ room)

abbrev pub invariant-search : goal.invariant-search
invariant-search l =
    Searching (given_in l.given (numbers l.codes l.figures) l.distances l.times) (runs_in (runs l.initial.calls l.initial.ends l.many l.count)) (runs l.calls l.ends l.many l.left)
    × (length l.rest_calls ≡ room) × (length l.rest_ends ≡ room)

abbrev pub decreases-search : goal.decreases-search
decreases-search l =
    l.left
