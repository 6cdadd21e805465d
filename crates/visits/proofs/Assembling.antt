-- The answer of `build_route`: for a run with a closed leg that leg, and for one without put together from the break, the walk, the way back and the violations.
-- Assumes nothing.
use Prim.Native.Nat.{ℕ, suc}
use native.Mathlib.Omega.{arith}
use mathlib.Core.Path.{◌≡◌, refl, sym, ap, ◌∙◌}
use mathlib.Core.List.{List, [], ◌∷◌}
use Rattle.std.specs.Prelude.{None, Some}
use lib.ListN.{length, length-take}
use lib.Ieee as Ieee
use lib.Ieee.{Float, binary64}
use Rattle.definitions.specs.Load.{Load}
use Rattle.distance.specs.declared.leg.Leg.{Leg}
use Rattle.models.specs.Load.{load_of}
use Rattle.evaluation.specs.Records.{Tables, LimitsF}
use Rattle.evaluation.specs.Tables.{leg_f}
use Rattle.evaluation.specs.Way.{closed_f}
use Rattle.visits.specs.declared.violation.Violations.{Violations}
use Rattle.visits.specs.declared.rest.RestAt.{RestAt}
use Rattle.visits.specs.declared.evaluator.VisitedRun.{VisitedRun}
use Rattle.visits.specs.declared.evaluator.Built.{Built}
use Rattle.visits.specs.Visiting.{RestF, rest_at_of, rest_at_f, TripF, visits_f, Walks}
use Rattle.visits.specs.Violations.{Checked}
use Rattle.visits.specs.Building.{RouteF, open_route_f, closed_route_f, route_f, build_route_f, built_of, Builds}

-- ---- by the first closed leg

module _ (t : Tables) (capacity : Load) (limits : LimitsF) (calls : List ℕ) (b : Built) where
  pub builds-closed : (leg : ℕ) → closed_f (leg_f t) 1 0 calls ≡ Some leg → (built_of b ≡ closed_route_f leg) × (b.count ≡ 0) × (b.found ≡ 1) → Builds t capacity limits calls b
  unfolding build_route_f
  builds-closed leg e h =
      let route : closed_route_f leg ≡ build_route_f t capacity limits calls = ap (route_f t capacity limits calls) (sym e) in
      record {
        built-is = h.0 ∙ route;
        count-is = h.1 ∙ ap (λ (r : RouteF). length r.visits) route;
        found-is = h.2 ∙ ap (λ (r : RouteF). length r.violations) route;
      }

-- ---- a run without one

-- a visit for each call
pub visits-counted : (t : Tables) (r : RestF) (k : ℕ) (x : TripF) (calls : List ℕ) → length (visits_f t r k x calls) ≡ length calls
unfolding visits_f
visits-counted t r k x [] = refl
visits-counted t r k x (c ∷ cs) = ap suc (visits-counted t r (suc k) _ cs)

module _ (t : Tables) (capacity : Load) (limits : LimitsF) (calls : List ℕ) (O : closed_f (leg_f t) 1 0 calls ≡ None) (at : RestAt) (w : VisitedRun) (f : Violations) (g : Leg)
    (er : rest_at_of at ≡ rest_at_f t limits.rest calls) (W : Walks t (rest_at_of at) calls w) (eg : Some g ≡ leg_f t w.trip.prev 0) where
  abbrev distance : Float
  distance = Ieee.add binary64 w.trip.distance g.distance

  abbrev duration : Float
  duration = Ieee.add binary64 w.trip.label.time g.time

  abbrev built : Built
  built =
      record {
        visits = w.visits;
        count = length calls;
        violations = f.list;
        found = f.count;
        distance = distance;
        duration = duration;
        lateness = w.trip.label.lateness;
        lateness_cost = w.trip.label.cost;
        load = w.trip.load;
        place = at.place;
        start = at.start;
      }

  module _ (C : Checked w.windows at.missing (load_of w.trip.load) capacity limits distance duration f) where
    assembled : built_of built ≡ open_route_f t capacity limits calls
    unfolding open_route_f
    assembled = rw (← er, C.list-is, W.visits-are, ← W.trip-is, ← W.windows-are, ← eg)

    route : open_route_f t capacity limits calls ≡ build_route_f t capacity limits calls
    unfolding build_route_f
    route = ap (route_f t capacity limits calls) (sym O)

    counted : length calls ≡ length (open_route_f t capacity limits calls).visits
    unfolding open_route_f
    counted = sym (visits-counted t _ 1 _ calls)

    pub builds : Builds t capacity limits calls built
    builds =
        record {
          built-is = assembled ∙ route;
          count-is = counted ∙ ap (λ (r : RouteF). length r.visits) route;
          found-is = rw (← route, ← assembled) (sym (simp length-take (omega (arith, C.room, C.long))));
        }
