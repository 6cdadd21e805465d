-- On a sheet within the limits, held in floats, the mark of a run is that of crates/definitions: its first fault, and else its cost. Assumes nothing.
use Rattle.clock.specs.declared.schedule.Scheduled.{Scheduled}
use Prim.Native.Nat.{ℕ, zero, suc, ◌+◌, ◌≤◌}
use native.Mathlib.Omega.{arith}
use native.Mathlib.Nat.{zero-add}
use mathlib.Core.Path.{◌≡◌, refl, ap, ap₂, ◌∙◌}
use mathlib.Core.Bool.{not}
use mathlib.Core.List.{List, [], ◌∷◌}
use Rattle.std.specs.Prelude.{Option, None, Some, option_map, Result, Err, Float}
use lib.ListN.{length}
use Rattle.basics.proofs.TestLaws.{by-test}
use Rattle.basics.specs.Options.{◌>>=◌, Holds, or_else, given}
use Rattle.basics.specs.Lists.{All}
use Rattle.definitions.specs.Domain.{most_calls}
use Rattle.definitions.specs.Load.{load_by, plus, seated}
use Rattle.definitions.specs.Sheet.{Break, Sheet, Leg, drive}
use Rattle.definitions.specs.Limits.{within}
use Rattle.definitions.specs.Run as Whole
use Rattle.definitions.specs.Run.{Run, start, serve_all, last_of, distance_from, first_closed, Totals, ride, load, fits, placed, price, run_cost}
use Rattle.definitions.specs.Marker.{Verdict, road_closed, walk_fault, total_fault, run_fault, overload_of}
use Rattle.bounds.specs.Sized as Inside
use Rattle.bounds.specs.Sized.{SmallBreak, Sized, Place}
use Rattle.theorems.proofs.Roads.{distance-home, open-distance, home_by, home-is}
use Rattle.bounds.proofs.Inside.{depot-inside}
use Rattle.bounds.proofs.BoundLaws.{start-early, distance_most, ride-most, totals-fit}
use Rattle.bounds.specs.Bounds.{SmallTotals, TotalsFit}
use Rattle.bounds.proofs.CostBoundLaws.{price-room}
use Rattle.whole.specs.Whole.{fl, limit}
use Rattle.whole.proofs.WholeLaws.{fl-sum}
use Rattle.models.specs.Image.{fl_break}
use Rattle.models.proofs.Exact.{Small, limit-exact, within-exact}
use Rattle.clock.specs.Serving.{start_label}
use Rattle.clock.specs.Image.{fl_totals}
use Rattle.clock.proofs.HomeExact.{excused-exact}
use Rattle.evaluation.specs.Tables.{demand_f}
use Rattle.evaluation.specs.Image.{fl_limits}
use Rattle.evaluation.proofs.ClockExact.{demand-exact}
use Rattle.evaluation.proofs.RouteExact.{first-closed-exact}
use Rattle.marker.specs.declared.verdict.Verdict as Code
use Rattle.marker.specs.Walking.{walk_f}
use Rattle.marker.specs.RunMark.{Ground, placed_f, totals_mark_f, walk_mark_f, load_mark_f, legs_mark_f, run_mark_f, overload_f}
use Rattle.marker.specs.Image.{fl_marked, Image, fl_verdict}
use Rattle.marker.proofs.WalkExact.{break-or-exact, Walks, stops, arrives, walk-exact}

-- the calls as a run with this break place
abbrev run_of : List ℕ → ℕ → Run
run_of calls place = record { calls = calls; place = place }

-- ---- load

module _ (s : Sheet) (S : Sized s) (G : Ground) (I : Image s G) where
  load-exact : (calls : List ℕ) → All (Place s) calls → load_by (demand_f G.tables.customers) calls ≡ load s calls
  load-exact [] i = refl
  load-exact (c ∷ cs) i = ap₂ plus (demand-exact s S G.tables.customers I.tables-hold.records-are c i.0) (load-exact cs i.1)

-- ---- totals

placed-exact : (o : Option Break) → Holds SmallBreak o → (place n duration : ℕ) → duration ≤ limit → placed_f (option_map fl_break o) place n (fl duration) ≡ placed o place n duration
unfolding placed_f placed
placed-exact None B place n duration h = refl
placed-exact (Some b) B zero n duration h = excused-exact b B duration h
placed-exact (Some b) B (suc k) n duration h = refl

small-limit : (o : Option ℕ) → Holds Inside.Small o → Small o
small-limit None h = tt
small-limit (Some n) h = omega arith

module _ (s : Sheet) (S : Sized s) (n place : ℕ) (calls : List ℕ) (few : length calls ≤ most_calls) (u : Totals) (T : SmallTotals (length calls) u) where
  fit : TotalsFit u
  fit = totals-fit (length calls) few u T

  room : s.head.fixed + u.distance + u.pay ≤ limit
  room = omega (arith, price-room s S 0 (length calls) 0 u.distance u.pay (omega arith) few (omega arith) T.distance_most T.pay-most)

  totals-mark-exact : totals_mark_f (fl_limits s) (fl s.head.fixed) n place (length calls) (fl_totals u) ≡ fl_marked (total_fault s n (run_of calls place) u) (price s u.distance u.pay)
  unfolding totals_mark_f
  totals-mark-exact =
      rw (
        placed-exact s.head.rest S.rest-small place (length calls) u.duration fit.duration-fits,
        within-exact s.head.max_distance u.distance (small-limit s.head.max_distance S.far-small) fit.distance-fits,
        within-exact s.head.max_duration u.duration (small-limit s.head.max_duration S.long-small) fit.duration-fits,
        fl-sum s.head.fixed u.distance (omega (arith, room)),
        fl-sum (s.head.fixed + u.distance) u.pay room,
        limit-exact s.head.max_distance,
        limit-exact s.head.max_duration,
        break-or-exact s.head.rest,
      )
      (by-test (placed s.head.rest place (length calls) u.duration)
      (λ y. by-test (within s.head.max_distance u.distance)
      (λ z. by-test (within s.head.max_duration u.duration) (λ w. rw (y, z, w)) (λ w. rw (y, z, w)))
      (λ z. rw (y, z)))
      (λ y. rw y))

-- ---- the run

module _ (s : Sheet) (S : Sized s) (G : Ground) (I : Image s G) (n place : ℕ) (calls : List ℕ) (few : length calls ≤ most_calls) (inside : All (Place s) calls) where
  abbrev last : Option Whole.Label
  last = serve_all s place 1 0 (Some start) calls

  -- by the walk, and then by the totals
  abbrev marked : Result Float Code.Verdict
  marked =
      fl_marked (or_else (walk_fault s n place 1 0 start calls) (ride s (run_of calls place) >>= total_fault s n (run_of calls place))) (run_cost s (run_of calls place))

  -- a run so long, with the way home `w`: none of its legs is closed
  module _ (d : ℕ) (far : distance_from s 0 calls ≡ Some d) (w : Leg) (back : drive s (last_of 0 calls) 0 ≡ Some w) where
    rode : (l : Whole.Label) → last ≡ Some l → ride s (run_of calls place) ≡ Some (home_by s calls d w.travel l)
    unfolding ride
    rode l e = rw e (home-is s calls d w far back l)

    walked-exact : (x : (Result Scheduled Code.Verdict)) → Walks (walk_fault s n place 1 0 start calls) last (0 + d) w.travel x
        → walk_mark_f (fl_limits s) (fl s.head.fixed) n place (length calls) x ≡ marked
    unfolding run_cost
    walked-exact x (stops v p q) = rw (q, p)
    walked-exact x (arrives l p e q) =
        rw (q, p, rode l e, zero-add d, far)
        (totals-mark-exact s S n place calls few (home_by s calls d w.travel l) (ride-most s S (run_of calls place) few (home_by s calls d w.travel l) (rode l e)))

    walk-mark-exact : walk_mark_f (fl_limits s) (fl s.head.fixed) n place (length calls) (walk_f G.tables (fl_limits s).rest n place 1 (fl 0) 0 start_label calls) ≡ marked
    walk-mark-exact =
        walked-exact _
        (walk-exact s S G.tables I.tables-hold n place 0 1 0 0 start calls d far w back (omega arith) (depot-inside s S) inside start-early (omega (arith, distance_most s S 0 calls d far)))

  -- each measure has its verdict
  by-measure : ◌≡◌ {A = Result Float Code.Verdict} (Err (overload_f n (load s calls) s.head.capacity)) (Err (fl_verdict (overload_of n (load s calls) s.head.capacity)))
  by-measure = by-test (seated (load s calls) s.head.capacity) (λ t. rw t) (λ f. rw f)

  -- the load, the calls and the totals of a run with no closed leg
  abbrev open_fault : Option Verdict
  open_fault =
      or_else (given (not (fits s calls)) (overload_of n (load s calls) s.head.capacity))
      (or_else (walk_fault s n place 1 0 start calls) (ride s (run_of calls place) >>= total_fault s n (run_of calls place)))

  open-exact : first_closed s calls ≡ None → load_mark_f G n calls place (load_by (demand_f G.tables.customers) calls) ≡ fl_marked open_fault (run_cost s (run_of calls place))
  open-exact o =
      let (d, far) = open-distance s 1 0 calls o in
      let (w, back) = distance-home s 0 calls d far in
      ap (load_mark_f G n calls place) (load-exact s S G I calls inside)
      ∙ rw (I.capacity-holds, I.limits-hold, I.fixed-holds) (by-test (fits s calls) (λ y. rw y (walk-mark-exact d far w back)) (λ y. rw y by-measure))

  pub run-exact : run_mark_f G n calls place ≡ fl_marked (run_fault s n (run_of calls place)) (run_cost s (run_of calls place))
  unfolding run_mark_f run_fault
  run-exact = ap (legs_mark_f G n calls place) (first-closed-exact s S G.tables I.tables-hold calls inside) ∙ go (first_closed s calls) refl
    where
      -- a closed leg first
      go : (o : Option ℕ) → first_closed s calls ≡ o → legs_mark_f G n calls place o ≡ fl_marked (or_else (option_map (road_closed n) o) open_fault) (run_cost s (run_of calls place))
      go None e = open-exact e
      go (Some leg) e = refl
