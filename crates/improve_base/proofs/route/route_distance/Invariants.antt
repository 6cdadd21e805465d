-- `route::route_distance` meets its contract. The loop's invariant: what is left of the run, from here, comes to what the whole run does. Assumes nothing.
-- ---- the places on the way: from the test for calls, and from the loop
use mathlib.Core.Path.{◌≡◌}
use lib.ListN.{drop}
use Rattle.distance.specs.Lookup.{number_f}
use Rattle.improve_base.specs.Route.{home_f}
use Rattle.improve_base.proofs.route.route_distance.Given as goal

abbrev pub invariant-loop-next : goal.invariant-loop-next
invariant-loop-next l = home_f (number_f l.distances l.size) l.dist l.prev (drop l.next-index l.next-items) ≡ home_f (number_f l.distances l.size) l.initial.dist l.initial.prev l.next-items
