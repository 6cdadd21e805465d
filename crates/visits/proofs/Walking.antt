-- The walk through the calls, call by call: what is written so far and what is left of the walk make the whole. Assumes nothing.
use Prim.Native.Nat.{ℕ, suc, ◌+◌, ◌≤◌, ◌<◌}
use native.Mathlib.Omega.{arith}
use native.Mathlib.Nat.{add-zero, le_refl}
use native.Mathlib.Numerals.{add-one}
use mathlib.Core.Path.{◌≡◌, refl, sym, ap, subst, ◌∙◌}
use mathlib.Core.Bool.{Bool, true, false, cond}
use mathlib.Core.List.{List, [], ◌∷◌, ◌++◌, append_assoc, append-nil}
use Rattle.std.specs.Prelude.{Option, None, Some}
use lib.ListN.{length, get_or, take, drop, set, length-set, drop_of_length-le}
use lib.Seq.{drop-cons, take-set-le, take-suc-set}
use lib.Ieee as Ieee
use lib.Ieee.{Float, binary64}
use Rattle.basics.specs.Options.{present}
use Rattle.basics.proofs.TestLaws.{by-test}
use Rattle.basics.proofs.OptionLaws.{clash}
use Rattle.definitions.specs.Load.{Load, plus}
use Rattle.definitions.specs.Sheet.{CustomerOf}
use Rattle.distance.specs.declared.leg.Leg.{Leg}
use Rattle.models.specs.Load.{UpTo, Countable, none-up-to, up-to-more}
use Rattle.models.specs.Window.{due_f}
use Rattle.evaluation.specs.Records.{Tables}
use Rattle.evaluation.specs.Tables.{record_f, leg_f}
use Rattle.evaluation.specs.Way.{closed_f}
use Rattle.visits.specs.declared.visit.Visit.{Visit}
use Rattle.visits.specs.declared.visit.ViolationType.TheVariants.{TimeWindowViolated}
use Rattle.visits.specs.declared.visit.Violation.{Violation}
use Rattle.visits.specs.declared.trip.Served.{Served}
use Rattle.visits.specs.declared.evaluator.VisitedRun.{VisitedRun}
use Rattle.visits.specs.Visiting.{RestF, TripF, trip_of, start_trip, VisitedF, ready_at_f, served_f, visit_f, visit_at_f, visits_f, windows_f, trip_f, load_in, most_violations, Walks}

-- an element written after the first n counts only where the test holds
pub written-some : {A : Type 0} (l : List A) (n m : ℕ) (a : A) (b : Bool) → n < length l → m ≡ n + cond b 1 0 → take m (set l n a) ≡ take n l ++ cond b (a ∷ []) []
written-some l n m a true h e = rw (e, add-one) (take-suc-set l n a h)
written-some l n m a false h e = rw (e, add-zero, append-nil) (take-set-le n l n a (le_refl n))

-- a call visited, put together from its readiness, the way it is left, when its window closes, and the load
module _ (x : TripF) (r : RestF) (k cid : ℕ) (c : CustomerOf Float) (distance travel ready due : Float) (m : Served) (load : Load)
    (er : ready ≡ ready_at_f r k (Ieee.add binary64 x.label.time travel)) (em : m ≡ served_f c ready x.label)
    (ed : due ≡ due_f c.window) (el : load ≡ plus x.load c.demand) where
  abbrev call : VisitedF
  call =
      record {
        trip = record { label = m.label; distance = Ieee.add binary64 x.distance distance; load = load; prev = cid };
        visit =
            record {
              customer_id = cid;
              arrival_time = Ieee.add binary64 x.label.time travel;
              departure_time = m.label.time;
              load_after = load_in load;
            };
        violation = record { kind = TimeWindowViolated cid ready due };
        shut = m.shut;
      }

  pub call-is : call ≡ visit_f x r k cid c distance travel
  unfolding visit_f
  call-is = rw (el, ed, em, er)

-- ---- the walk

-- where no leg is closed, the first is open and none of the others is closed
none-closed : (b : Bool) (o : Option ℕ) (k : ℕ) → cond b o (Some k) ≡ None → (b ≡ true) × (o ≡ None)
none-closed true o k e = (refl, e)
none-closed false o k e = clash (sym e)

-- before call number i + 1
pub record Underway (t : Tables) (r : RestF) (calls : List ℕ) (visits : List Visit) (list : List Violation) (count : ℕ) (x : TripF) (i : ℕ) : Type 0 where
  pub short : length calls ≤ 128
  pub within : i ≤ length calls
  pub visits-go : take i visits ++ visits_f t r (suc i) x (drop i calls) ≡ visits_f t r 1 start_trip calls
  pub windows-go : take count list ++ windows_f t r (suc i) x (drop i calls) ≡ windows_f t r 1 start_trip calls
  pub trip-goes : trip_f t r (suc i) x (drop i calls) ≡ trip_f t r 1 start_trip calls
  pub roads : closed_f (leg_f t) (suc i) x.prev (drop i calls) ≡ None
  pub few : count ≤ i
  pub load-most : UpTo i x.load
  pub visits-long : length visits ≡ 128
  pub list-long : length list ≡ most_violations

module _ (t : Tables) (r : RestF) (calls : List ℕ) where
  pub set_out : (visits : List Visit) (list : List Violation) (x : TripF)
      → length calls ≤ 128 → closed_f (leg_f t) 1 0 calls ≡ None → length visits ≡ 128 → length list ≡ most_violations → x ≡ start_trip → Underway t r calls visits list 0 x 0
  set_out visits list x s o v l e =
      rw e
      (record {
        short = s;
        within = omega arith;
        visits-go = refl;
        windows-go = refl;
        trip-goes = refl;
        roads = o;
        few = omega arith;
        load-most = none-up-to;
        visits-long = v;
        list-long = l;
      })

  module _ (visits : List Visit) (list : List Violation) (count : ℕ) (x : TripF) (i : ℕ) (U : Underway t r calls visits list count x i) where
    -- one call more can be counted
    pub countable : Countable x.load
    countable = up-to-more i 1000 x.load (omega arith) U.load-most

    -- the leg to the next call is open, and so are those behind it
    next-open : i < length calls → (present (leg_f t x.prev (get_or calls i 0)) ≡ true) × (closed_f (leg_f t) (suc (suc i)) (get_or calls i 0) (drop (suc i) calls) ≡ None)
    unfolding closed_f
    next-open h = none-closed (present (leg_f t x.prev (get_or calls i 0))) _ (suc i) (rw (drop-cons calls i 0 h) at U.roads)

    pub call-open : i < length calls → present (leg_f t x.prev (get_or calls i 0)) ≡ true
    call-open h = (next-open h).0

    -- the call, with what is looked up for it
    module _ (s : VisitedF) (c : CustomerOf Float) (g : Leg) (h : i < length calls) (ec : c ≡ record_f t (get_or calls i 0)) (eg : Some g ≡ leg_f t x.prev (get_or calls i 0))
        (es : s ≡ visit_f x r (i + 1) (get_or calls i 0) c g.distance g.time) where
      visited-is : s ≡ visit_at_f t r (suc i) x (get_or calls i 0)
      visited-is = es ∙ rw (ec, ← eg, add-one)

      -- the call is the last place
      last-is : get_or calls i 0 ≡ s.trip.prev
      unfolding visit_f
      last-is = ap (λ (v : VisitedF). v.trip.prev) (sym es)

      visits-left : visits_f t r (suc i) x (drop i calls) ≡ s.visit ∷ visits_f t r (suc (suc i)) s.trip (drop (suc i) calls)
      unfolding visits_f
      visits-left = rw (visited-is, drop-cons calls i 0)

      windows-left : windows_f t r (suc i) x (drop i calls) ≡ cond s.shut (s.violation ∷ []) [] ++ windows_f t r (suc (suc i)) s.trip (drop (suc i) calls)
      unfolding windows_f
      windows-left = rw (drop-cons calls i 0, ← visited-is) (by-test s.shut (λ y. rw y) (λ y. rw y))

      trip-left : trip_f t r (suc i) x (drop i calls) ≡ trip_f t r (suc (suc i)) s.trip (drop (suc i) calls)
      unfolding trip_f
      trip-left = rw (visited-is, drop-cons calls i 0)

      pub turn : (n : ℕ) → n ≡ count + cond s.shut 1 0 → UpTo (i + 1) s.trip.load
          → Underway t r calls (set visits i s.visit) (set list count s.violation) n s.trip (i + 1)
      turn n en more =
          let room : i < length visits = omega arith in
          let free : count < length list = omega arith in
          record {
            short = U.short;
            within = omega arith;
            visits-go = rw (add-one, take-suc-set visits i s.visit, append_assoc, ← visits-left) U.visits-go;
            windows-go = rw (add-one, written-some list count n s.violation s.shut free en, append_assoc, ← windows-left) U.windows-go;
            trip-goes = rw (add-one, ← trip-left) U.trip-goes;
            roads = rw (add-one) (subst (λ (a : ℕ). closed_f (leg_f t) (suc (suc i)) a (drop (suc i) calls) ≡ None) last-is (next-open h).1);
            few = by-test s.shut (λ y. let z = rw y at en in omega arith) (λ y. let z = rw y at en in omega arith);
            load-most = more;
            visits-long = simp length-set U.visits-long;
            list-long = simp length-set U.list-long;
          }

    pub arrive : length calls ≤ i → (w : VisitedRun) → w.visits ≡ visits → w.windows.list ≡ list → w.windows.count ≡ count → trip_of w.trip ≡ x → Walks t r calls w
    unfolding visits_f windows_f trip_f closed_f
    arrive h w ev el ec ex =
        let all : i ≡ length calls = omega arith in
        record {
          visits-are = rw (ev, ← all, ← U.visits-go, drop_of_length-le calls h, append-nil);
          windows-are = rw (el, ec, ← U.windows-go, drop_of_length-le calls h, append-nil);
          trip-is = rw (ex, ← U.trip-goes, drop_of_length-le calls h);
          home-open =
              ap (λ (y : TripF). present (leg_f t y.prev 0)) ex
              ∙ (none-closed (present (leg_f t x.prev 0)) None (suc i) (rw (drop_of_length-le calls h) at U.roads)).0;
          few = omega arith;
          long = rw el U.list-long;
        }
