-- The answer of `timeline_of`: for a run with a closed leg that leg, and for one without put together from the break, the walk, the way back, the violations and the
-- service starts. Assumes nothing.
use Prim.Native.Nat.{ℕ, zero, suc, ◌-◌, ◌≤◌}
use native.Mathlib.Omega.{arith}
use mathlib.Core.Path.{◌≡◌, refl, sym, ap, ◌∙◌}
use mathlib.Core.Bool.{Bool}
use mathlib.Core.List.{List, []}
use Rattle.std.specs.Prelude.{Option, None, Some}
use lib.ListN.{length, length-take, get_or, take}
use lib.Seq.{get_or-take}
use lib.Ieee as Ieee
use lib.Ieee.{Float, binary64}
use Rattle.definitions.specs.Domain.{most_calls}
use Rattle.definitions.specs.Load.{Load}
use Rattle.definitions.specs.Sheet.{BreakOf}
use Rattle.whole.specs.Whole.{fl}
use Rattle.distance.specs.declared.leg.Leg.{Leg}
use Rattle.models.specs.Load.{load_of}
use Rattle.evaluation.specs.Records.{Tables, LimitsF}
use Rattle.evaluation.specs.Tables.{leg_f}
use Rattle.evaluation.specs.Way.{closed_f}
use Rattle.evaluation.proofs.Reading.{get_d_of}
use Rattle.visits.specs.declared.visit.Visit.{Visit}
use Rattle.visits.specs.declared.violation.Violations.{Violations}
use Rattle.visits.specs.declared.rest.RestAt.{RestAt}
use Rattle.visits.specs.declared.evaluator.VisitedRun.{VisitedRun}
use Rattle.visits.specs.declared.evaluator.Built.{Built}
use Rattle.visits.specs.Visiting.{rest_at_of, visits_f, Walks, blank_visit}
use Rattle.visits.specs.Violations.{Checked}
use Rattle.visits.specs.Building.{closed_route_f, built_of}
use Rattle.visits.proofs.Assembling.{visits-counted}
use Rattle.timeline.specs.declared.timeline.Timeline.{Timeline}
use Rattle.timeline.specs.Timing.{started_f, given_start_f, given_rest_f, untaken_f, begins_f, TimelineF, open_timeline_f, timeline_by_f, timeline_f, timeline_in, Times}

-- ---- the break by the visits

-- what is read of the first n visits
pub start_first : (rest : Option (BreakOf Float)) (place n : ℕ) (visits : List Visit) → place ≤ n → given_start_f rest place visits ≡ given_start_f rest place (take n visits)
unfolding given_start_f
start_first None place n visits h = refl
start_first (Some b) zero n visits h = refl
start_first (Some b) (suc k) n visits h = rw (get_or-take n visits k blank_visit (omega arith))

-- at a place from 1 on, whatever stands beyond the visits
pub start-at : (b : BreakOf Float) (place : ℕ) (visits : List Visit) (d : Visit) → (place ≡ 0 → ⊥) → place ≤ length visits
    → started_f b (get_or visits (place - 1) d).arrival_time ≡ given_start_f (Some b) place visits
unfolding given_start_f
start-at b zero visits d h i = absurd (h refl)
start-at b (suc k) visits d h i =
    let same : (get_or visits k d).arrival_time ≡ (get_or visits k blank_visit).arrival_time =
    get_d_of (λ v. v.arrival_time) visits k d (fl 0) i ∙ sym (get_d_of (λ v. v.arrival_time) visits k blank_visit (fl 0) i) in
    let before : suc k - 1 ≡ k = omega arith in
    ap (λ (j : ℕ). started_f b (get_or visits j d).arrival_time) before ∙ ap (started_f b) same

-- ---- by the first closed leg

module _ (t : Tables) (capacity : Load) (limits : LimitsF) (place : ℕ) (calls : List ℕ) where
  pub times-closed : (b : Built) (begins : List Float) (leg : ℕ) → closed_f (leg_f t) 1 0 calls ≡ Some leg → (built_of b ≡ closed_route_f leg) × (b.count ≡ 0) × (b.found ≡ 1)
      → Times t capacity limits place calls (record { run = b; begins = begins })
  unfolding timeline_f
  times-closed b begins leg e h =
      let told : record { route = closed_route_f leg; begins = [] } ≡ timeline_f t capacity limits place calls = ap (timeline_by_f t capacity limits place calls) (sym e) in
      record {
        timeline-is = (λ i. record { route = h.0 i; begins = take (h.1 i) begins }) ∙ told;
        count-is = h.1 ∙ ap (λ (x : TimelineF). length x.route.visits) told;
        found-is = h.2 ∙ ap (λ (x : TimelineF). length x.route.violations) told;
        count_most = omega (arith, h.1);
        found-most = omega (arith, h.2);
      }

-- ---- a run without one

module _ (t : Tables) (capacity : Load) (limits : LimitsF) (place : ℕ) (calls : List ℕ) (O : closed_f (leg_f t) 1 0 calls ≡ None) (short : length calls ≤ most_calls)
    (at : RestAt) (w : VisitedRun) (f : Violations) (g : Leg) (begins : List Float) (missing : Bool)
    (er : rest_at_of at ≡ given_rest_f t limits.rest place calls) (W : Walks t (rest_at_of at) calls w) (eg : Some g ≡ leg_f t w.trip.prev 0) where
  abbrev distance : Float
  distance = Ieee.add binary64 w.trip.distance g.distance

  abbrev duration : Float
  duration = Ieee.add binary64 w.trip.label.time g.time

  abbrev made : Timeline
  made =
      record {
        run =
            record {
              visits = w.visits;
              count = length calls;
              violations = f.list;
              found = f.count;
              distance = distance;
              duration = duration;
              lateness = w.trip.label.lateness;
              lateness_cost = w.trip.label.cost;
              load = w.trip.load;
              place = place;
              start = at.start;
            };
        begins = begins;
      }

  module _ (em : missing ≡ untaken_f limits.rest place at.start duration) (eb : take (length calls) begins ≡ begins_f t.customers (rest_at_of at) 1 (take (length calls) w.visits))
      (C : Checked w.windows missing (load_of w.trip.load) capacity limits distance duration f) where
    assembled : timeline_in made ≡ open_timeline_f t capacity limits place calls
    unfolding open_timeline_f
    assembled = rw (← er, eb, C.list-is, em, W.visits-are, ← W.trip-is, ← W.windows-are, ← eg)

    told : open_timeline_f t capacity limits place calls ≡ timeline_f t capacity limits place calls
    unfolding timeline_f
    told = ap (timeline_by_f t capacity limits place calls) (sym O)

    counted : length calls ≡ length (open_timeline_f t capacity limits place calls).route.visits
    unfolding open_timeline_f
    counted = sym (visits-counted t _ 1 _ calls)

    pub times : Times t capacity limits place calls made
    times =
        record {
          timeline-is = assembled ∙ told;
          count-is = counted ∙ ap (λ (x : TimelineF). length x.route.visits) told;
          found-is = rw (← told, ← assembled) (sym (simp length-take (omega (arith, C.room, C.long))));
          count_most = short;
          found-most = C.room;
        }
