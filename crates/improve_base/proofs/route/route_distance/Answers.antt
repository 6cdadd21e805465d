-- `route::route_distance` meets its contract. The loop's invariant: what is left of the run, from here, comes to what the whole run does. Assumes nothing.
-- ---- the places on the way: from the test for calls, and from the loop
use Prim.Native.Nat.{ℕ}
use mathlib.Core.Path.{sym, ap, ◌∙◌}
use lib.ListN.{get_or}
use lib.Ieee as Ieee
use Rattle.std.proofs.lemmas.List.{take_rest}
use lib.Ieee.{Float, binary64}
use Rattle.distance.specs.Lookup.{number_f}
use Rattle.improve_base.specs.Route.{home_f}
use Rattle.improve_base.proofs.Reckoning.{home-turn, home-end, distance_none, distance_some}
use Rattle.improve_base.proofs.route.route_distance.Goals as goal
use Rattle.improve_base.proofs.route.route_distance.Goals.{Start}

abbrev leg : Start → ℕ → ℕ → Float
leg s = number_f s.args.distances.now s.args.size

pub returns-then-route-eq0 : goal.returns-then-route-eq0
returns-then-route-eq0 c =
    let a = c.args in
    distance_none (number_f a.distances.now a.size) a.route.now c.if-route-eq0.true

pub loop-next-preserved : goal.loop-next-preserved
loop-next-preserved c =
    let l = c.loop-next in
    sym (home-turn (leg (goal.at.loop-next-preserved c).Start) _ l.dist l.prev l.next-index _ c.loop-next-test.true c.open_leg-dist-in-loop-next.ensures) ∙ l.invariant

pub returns : goal.returns
returns c =
    let l = c.loop-next in
    let route = c.args.route.now in
    ap (Ieee.add binary64 l.dist) c.open_leg.ensures
    ∙ sym (home-end (leg (goal.at.returns c).Start) _ l.dist l.prev l.next-index c.loop-next-test.false)
    ∙ l.invariant
    ∙ ap (home_f (leg (goal.at.returns c).Start) c.open_leg-dist.result (get_or route 0 0)) (take_rest route 1)
    ∙ distance_some (leg (goal.at.returns c).Start) route _ c.if-route-eq0.false c.open_leg-dist.ensures
