-- On a sheet of whole numbers within the limits a run is in time with a call more exactly when it is feasible and not too long. Assumes nothing.
use Prim.Native.Nat.{ℕ, ◌+◌, ◌*◌, ◌≤◌}
use native.Mathlib.Omega.{arith}
use mathlib.Core.Path.{◌≡◌, refl, sym, ap, ap₂, subst, ◌∙◌}
use mathlib.Core.Bool.{Bool, true, false, ◌&&◌}
use mathlib.Core.List.{List, [], ◌∷◌, ◌++◌}
use Rattle.std.specs.Prelude.{Option, None, Some, option_map}
use lib.ListN.{length, get_or, take, drop}
use lib.Seq.{length-take-le}
use lib.Ieee.{Float}
use Rattle.basics.specs.Options.{Holds}
use Rattle.basics.specs.Lists.{All}
use Rattle.basics.proofs.ListLaws.{all_take, all_drop}
use Rattle.basics.proofs.OptionLaws.{same}
use Rattle.bounds.specs.Sized.{Small, SmallWindow, SmallBreak, SmallCustomer, Sized, Place}
use Rattle.bounds.proofs.Inside.{sized, depot-inside, call-inside, leg-small, customer-small}
use Rattle.definitions.specs.Domain.{most_calls, most_number}
use Rattle.definitions.specs.Sheet.{Window, Break, Customer, Sheet, Leg, customer, drive, map_window, map_break}
use Rattle.definitions.specs.Limits.{within}
use Rattle.definitions.specs.Refusals.{any_closed, Within}
use Rattle.definitions.specs.Improver.{given_of, distance_of}
use Rattle.theorems.proofs.Roads.{legs-open, run-open}
use Rattle.definitions.specs.Run.{last_of, distance_from}
use Rattle.definitions.specs.Evaluation.{route_feasible}
use Rattle.whole.specs.Whole.{fl, limit}
use Rattle.whole.proofs.WholeLaws.{fl-add}
use Rattle.whole.specs.Infinity.{Ext, of, fx}
use Rattle.models.specs.Image.{fl_window, fl_break, fl_customer}
use Rattle.distance.specs.declared.leg.Leg as D
use Rattle.distance.proofs.Exact.{fl_leg}
use Rattle.evaluation.specs.Records.{Tables}
use Rattle.evaluation.specs.Tables.{place_before, record_f}
use Rattle.evaluation.specs.Image.{Image, fl_limits}
use Rattle.evaluation.proofs.ClockExact.{leg-exact, record-exact}
use Rattle.improve_base.specs.Leg.{AllOpen}
use Rattle.improve_base.proofs.OpenLegs.{drive-open}
use Rattle.improve_base.proofs.LegExact.{tables-open}
use Rattle.latest.specs.Times.{HoursOf, DayOf, TimesOf, above, opens_at, shuts_at, hours_of, day_of, sooner, set_out, serve, serves, home, back, bounds, in_time, fits_f, timely}
use Rattle.latest.specs.Floats.{floats, travel_f, hours_f, day_f, serves_f, bounds_f}
use Rattle.latest.proofs.Ways.{serve-whole}
use Rattle.latest.proofs.Walking.{first-left, last-before, serves-append}
use Rattle.latest.proofs.Bounding.{exts, Whole, turn}
use Rattle.latest.proofs.ClockTimes.{hours_e, day_e, travel_of, road_e, place_e, serves_e, Open, set-hours, known-day, feasible-is}
use Rattle.latest.proofs.FloatTimes.{fx_hours, fx_day, fx_times, Upto, SmallHours, SmallDay, Times, each, serve-fx, serve-upto, back-fx, back-upto, in-time-fx, sooner-upto, sooner-fx, fit}

-- ---- where a call is put

last-append : (a : ℕ) (xs : List ℕ) (c : ℕ) (ys : List ℕ) → last_of a (xs ++ (c ∷ ys)) ≡ last_of c ys
last-append a [] c ys = refl
last-append a (x ∷ xs) c ys = last-append x xs c ys

-- ---- in whole numbers

module _ (s : Sheet) where
  serve-alone : (hours : HoursOf Ext) (m : Ext) (t : TimesOf Ext) → Whole (day_e s) t → Whole (day_e s) (serve exts (day_e s) hours m t)
  serve-alone hours m t W b = ap (λ (w : TimesOf Ext). w.after) (sym (serve-whole exts (day_e s) hours m t b)) ∙ W b

  serves-alone : (t : TimesOf Ext) (a : ℕ) (cs : List ℕ) → Whole (day_e s) t → Whole (day_e s) (serves_e s t a cs)
  unfolding serves
  serves-alone t a [] W = W
  serves-alone t a (c ∷ cs) W = serves-alone (serve exts (day_e s) (place_e s c) (road_e s a c) t) c cs (serve-alone (place_e s c) (road_e s a c) t W)

  abbrev bounds_e : List ℕ → TimesOf Ext
  bounds_e cs = bounds exts (road_e s) (place_e s) (day_e s) cs

  -- home in time after these calls, or their first reached before its bound
  bounds-are : (t : TimesOf Ext) (a : ℕ) (cs : List ℕ) → Whole (day_e s) t
      → in_time exts (serves_e s t a cs) (road_e s (last_of a cs) 0) (home exts (day_e s)) ≡ in_time exts t (road_e s a (get_or cs 0 0)) (bounds_e cs)
  unfolding serves bounds
  bounds-are t a [] W = refl
  bounds-are t a (c ∷ cs) W =
      bounds-are (serve exts (day_e s) (place_e s c) (road_e s a c) t) c cs (serve-alone (place_e s c) (road_e s a c) t W)
      ∙ turn (day_e s) (known-day s.head.max_duration s.head.rest) (place_e s c) (set-hours (customer s c)) (travel_of (drive s a c)) (travel_of (drive s c (get_or cs 0 0))) t (bounds_e cs) W

  timely-is : (run : List ℕ) (pos c : ℕ) → pos ≤ length run
      → in_time exts (serves_e s (set_out exts) 0 (take pos run ++ (c ∷ drop pos run))) (road_e s (last_of 0 (take pos run ++ (c ∷ drop pos run))) 0) (home exts (day_e s))
      ≡ timely exts (road_e s) (place_e s) (day_e s) run pos c
  unfolding fits_f serves
  timely-is run pos c h =
      let xs = take pos run in
      let ys = drop pos run in
      let t = serves_e s (set_out exts) 0 xs in
      let with-c : ℕ → TimesOf Ext = λ a. serve exts (day_e s) (place_e s c) (road_e s a c) t in
      ap₂ (λ (w : TimesOf Ext) (a : ℕ). in_time exts w (road_e s a 0) (home exts (day_e s))) (serves-append exts (road_e s) (place_e s) (day_e s) (set_out exts) 0 xs (c ∷ ys)) (last-append 0 xs c ys)
      ∙ bounds-are (with-c (last_of 0 xs)) c ys (serve-alone (place_e s c) (road_e s (last_of 0 xs) c) t (serves-alone (set_out exts) 0 xs (λ b. refl)))
      ∙ ap₂ (λ (a b : ℕ). in_time exts (with-c a) (road_e s c b) (bounds_e ys)) (last-before run pos h) (first-left run pos)

-- ---- a sheet held in floats

hours-fx : (c : Customer) → SmallCustomer c → hours_of floats (fl_customer c) ≡ fx_hours (hours_e c)
hours-fx c C = ap₂ (λ (x y : Float). record { ready = x; bound = y; service = fl c.service }) (opens c.window) (shuts c.window c.penalty C.window-small)
  where
    opens : (w : Option Window) → opens_at floats (option_map fl_window w) ≡ fx (opens_at exts (option_map (map_window of) w))
    opens None = refl
    opens (Some w) = refl

    shuts : (w : Option Window) (p : Option ℕ) → Holds SmallWindow w → shuts_at floats (option_map fl_window w) (option_map fl p) ≡ fx (shuts_at exts (option_map (map_window of) w) (option_map of p))
    shuts None p W = refl
    shuts (Some w) None W = fl-add w.due 1 (omega (arith, W.due-small)) (omega arith)
    shuts (Some w) (Some p) W = refl

hours-small : (c : Customer) → SmallCustomer c → SmallHours (hours_e c)
hours-small c C = record { ready-small = opens c.window C.window-small; bound-small = shuts c.window c.penalty C.window-small; service-small = C.service-small }
  where
    opens : (w : Option Window) → Holds SmallWindow w → Upto most_number (opens_at exts (option_map (map_window of) w))
    opens None W = omega arith
    opens (Some w) W = W.ready-small

    shuts : (w : Option Window) (p : Option ℕ) → Holds SmallWindow w → Upto (most_number + 1) (shuts_at exts (option_map (map_window of) w) (option_map of p))
    shuts None p W = tt
    shuts (Some w) None W = omega (arith, W.due-small)
    shuts (Some w) (Some p) W = tt

module _ (most : Option ℕ) (m : Holds Small most) where
  above-fx : above floats (option_map fl most) ≡ fx (above exts (option_map of most))
  above-fx = go most m
    where
      go : (o : Option ℕ) → Holds Small o → above floats (option_map fl o) ≡ fx (above exts (option_map of o))
      go None h = refl
      go (Some n) h = fl-add n 1 (omega arith) (omega arith)

  above-small : Upto (most_number + 1) (above exts (option_map of most))
  above-small = go most m
    where
      go : (o : Option ℕ) → Holds Small o → Upto (most_number + 1) (above exts (option_map of o))
      go None h = tt
      go (Some n) h = omega arith

  abbrev day_by : Option Break → DayOf Ext
  day_by o = day_of exts (option_map of most) (option_map (map_break of) o)

  day-fx : (o : Option Break) → Holds SmallBreak o → day_of floats (option_map fl most) (option_map fl_break o) ≡ fx_day (day_by o)
  day-fx None B = ap (λ (x : Float). record { long = x; spare = x; broken = false; earliest = fl 0; latest = fl 0; pause = fl 0 }) above-fx
  day-fx (Some b) B =
      let long = above exts (option_map of most) in
      let long-fits = fit (most_number + 1) long (omega arith) above-small in
      let spare = ap (λ (x : Float). sooner floats x (fl b.earliest)) above-fx ∙ sooner-fx long (of b.earliest) long-fits (omega (arith, B.earliest-small)) in
      ap₂ (λ (x y : Float). record { long = x; spare = y; broken = true; earliest = fl b.earliest; latest = floats.plus (fl b.latest) (fl 1); pause = fl b.duration }) above-fx spare
      ∙ ap (λ (x : Float). record { long = fx long; spare = fx (sooner exts long (of b.earliest)); broken = true; earliest = fl b.earliest; latest = x; pause = fl b.duration })
      (fl-add b.latest 1 (omega (arith, B.latest-small)) (omega arith))

  day-small : (o : Option Break) → Holds SmallBreak o → SmallDay (day_by o)
  day-small None B = record { long-small = above-small; spare-small = above-small; earliest-small = omega arith; latest-small = omega arith; pause-small = omega arith }
  day-small (Some b) B =
      record {
        long-small = above-small;
        spare-small = sooner-upto (most_number + 1) (above exts (option_map of most)) (of b.earliest) above-small (omega (arith, B.earliest-small));
        earliest-small = B.earliest-small;
        latest-small = omega (arith, B.latest-small);
        pause-small = B.duration-small;
      }

module _ (s : Sheet) (W : Within s) (none-closed : any_closed Some s.legs ≡ false) (t : Tables) (I : Image s t) where
  abbrev S : Sized s
  S = sized s W

  opened : AllOpen t.distances × AllOpen t.times
  opened = tables-open s S none-closed t I W.closed-alike

  way : (a b : ℕ) → (g : Leg) × (drive s a b ≡ Some g)
  way a b = let x = legs-open s W none-closed a b in (x.0, x.1)

  open-all : (a : ℕ) (cs : List ℕ) → Open s a cs
  open-all a [] = tt
  open-all a (c ∷ cs) = (way a c, open-all c cs)

  travel-exact : (a b : ℕ) → Place s a → Place s b → travel_f t a b ≡ fl (travel_of (drive s a b))
  travel-exact a b p q =
      let x = way a b in
      let read = drive-open t.distances t.times t.size a b opened _ _ refl refl in
      let e = read ∙ leg-exact s S t I a b p q ∙ ap (option_map fl_leg) x.1 in
      ap (λ (g : D.Leg). g.time) (same e) ∙ ap (λ (o : Option Leg). fl (travel_of o)) (sym x.1)

  travel-small : (a b : ℕ) → travel_of (drive s a b) ≤ most_number
  travel-small a b = let x = way a b in subst (λ (o : Option Leg). travel_of o ≤ most_number) (sym x.1) (leg-small s S a b x.0 x.1).1

  place-exact : (c : ℕ) → Place s c → hours_f t.customers c ≡ fx_hours (place_e s c)
  unfolding hours_f record_f
  place-exact c p = ap (hours_of floats) (record-exact s S t I c p) ∙ hours-fx (customer s c) (customer-small s S c)

  place-small : (c : ℕ) → SmallHours (place_e s c)
  place-small c = hours-small (customer s c) (customer-small s S c)

  abbrev day : DayOf Float
  day = day_f (fl_limits s)

  day-exact : day ≡ fx_day (day_e s)
  day-exact = day-fx s.head.max_duration S.long-small s.head.rest S.rest-small

  small : SmallDay (day_e s)
  small = day-small s.head.max_duration S.long-small s.head.rest S.rest-small

  -- one call
  served : (m : ℕ) → most_number ≤ m → m + each ≤ limit → (u : TimesOf Ext) → Times m u → (a c : ℕ) → Place s a → Place s c
      → serve floats day (hours_f t.customers c) (travel_f t a c) (fx_times u) ≡ fx_times (serve exts (day_e s) (place_e s c) (road_e s a c) u)
  served m low high u U a c p q =
      ap₂ (λ (d : DayOf Float) (x : Float). serve floats d (hours_f t.customers c) x (fx_times u)) day-exact (travel-exact a c p q)
      ∙ ap (λ (x : HoursOf Float). serve floats (fx_day (day_e s)) x (fl (travel_of (drive s a c))) (fx_times u)) (place-exact c q)
      ∙ serve-fx (day_e s) small (place_e s c) (place-small c) (travel_of (drive s a c)) (travel-small a c) m low high u U

  serves-exact : (m : ℕ) → most_number ≤ m → (u : TimesOf Ext) → Times m u → (a : ℕ) (cs : List ℕ) → m + length cs * each ≤ limit → Place s a → All (Place s) cs
      → (serves_f t day (fx_times u) a cs ≡ fx_times (serves_e s u a cs)) × Times (m + length cs * each) (serves_e s u a cs)
  unfolding serves
  serves-exact m low u U a [] high p i = (refl, subst (λ (n : ℕ). Times n u) (omega arith) U)
  serves-exact m low u U a (c ∷ cs) high p i =
      let v = serve exts (day_e s) (place_e s c) (road_e s a c) u in
      let after-c = serve-upto (day_e s) small (place_e s c) (place-small c) (travel_of (drive s a c)) (travel-small a c) m low (omega arith) u U in
      let next = serves-exact (m + each) (omega arith) v after-c c cs (omega arith) i.0 i.1 in (
        ap (λ (x : TimesOf Float). serves_f t day x c cs) (served m low (omega arith) u U a c p i.0) ∙ next.0,
        subst (λ (n : ℕ). Times n (serves_e s v c cs)) (omega arith) next.1,
      )

  bounds-exact : (cs : List ℕ) → All (Place s) cs → (bounds_f t day cs ≡ fx_times (bounds_e s cs)) × Times (most_number + 1) (bounds_e s cs)
  unfolding bounds
  bounds-exact [] i = (ap (home floats) day-exact, record { before-upto = small.spare-small; after-upto = small.long-small })
  bounds-exact (c ∷ cs) i =
      let next = get_or cs 0 0 in
      let later = bounds-exact cs i.1 in (
        ap₂ (λ (d : DayOf Float) (x : TimesOf Float). back floats d (hours_f t.customers c) (travel_f t c next) x) day-exact later.0
            ∙ ap₂ (λ (b : HoursOf Float) (x : Float). back floats (fx_day (day_e s)) b x (fx_times (bounds_e s cs))) (place-exact c i.0) (travel-exact c next i.0 (call-inside s S cs 0 i.1))
            ∙ back-fx (day_e s) small (place_e s c) (place-small c) (travel_of (drive s c next)) (travel-small c next) (bounds_e s cs) later.1,
        back-upto (day_e s) small (place_e s c) (place-small c) (travel_of (drive s c next)) (travel-small c next) (bounds_e s cs) later.1,
      )

  module _ (run : List ℕ) (pos c : ℕ) (i : All (Place s) run) (p : Place s c) (h : pos ≤ length run) (few : length run ≤ most_calls) where
    abbrev new : List ℕ
    new = take pos run ++ (c ∷ drop pos run)

    before-inside : Place s (place_before run pos)
    before-inside = subst (Place s) (last-before run pos h) (inside 0 (take pos run) (depot-inside s S) (all_take (Place s) pos run i))
      where
        inside : (a : ℕ) (cs : List ℕ) → Place s a → All (Place s) cs → Place s (last_of a cs)
        inside a [] q j = q
        inside a (x ∷ cs) q j = inside x cs j.0 j.1

    timely-exact : timely floats (travel_f t) (hours_f t.customers) day run pos c ≡ timely exts (road_e s) (place_e s) (day_e s) run pos c
    unfolding fits_f
    timely-exact =
        let next = get_or run pos 0 in
        let u = serves_e s (set_out exts) 0 (take pos run) in
        let n = length-take-le pos run h in
        let out : Times most_number (set_out exts) = record { before-upto = omega arith; after-upto = tt } in
        let first = serves-exact most_number (omega arith) (set_out exts) out 0 (take pos run) (omega (arith, n)) (depot-inside s S) (all_take (Place s) pos run i) in
        let m : ℕ = most_number + length (take pos run) * each in
        let behind = bounds-exact (drop pos run) (all_drop (Place s) pos run i) in
        let prev = place_before run pos in
        let v = serve exts (day_e s) (place_e s c) (road_e s prev c) u in
        let with-c = ap (λ (x : TimesOf Float). serve floats day (hours_f t.customers c) (travel_f t prev c) x) first.0
        ∙ served m (omega arith) (omega (arith, n)) u first.1 prev c before-inside p in
        ap₂ (λ (x y : TimesOf Float). in_time floats x (travel_f t c next) y) with-c behind.0
        ∙ ap (λ (x : Float). in_time floats (fx_times v) x (fx_times (bounds_e s (drop pos run)))) (travel-exact c next p (call-inside s S run pos i))
        ∙ in-time-fx (m + each) (travel_of (drive s c next)) (omega (arith, n)) (travel-small c next) v (bounds_e s (drop pos run))
        (serve-upto (day_e s) small (place_e s c) (place-small c) (travel_of (drive s prev c)) (travel-small prev c) m (omega arith) (omega (arith, n)) u first.1) behind.1

    -- the run with c is feasible exactly when it is not too long and c fits in
    pub inserted-exact : within s.head.max_distance (distance_of (given_of s) new) && timely floats (travel_f t) (hours_f t.customers) day run pos c ≡ route_feasible s new
    inserted-exact =
        let back = way (last_of 0 new) 0 in
        ap (λ (b : Bool). within s.head.max_distance (distance_of (given_of s) new) && b)
        (timely-exact ∙ sym (timely-is s run pos c h) ∙ ap (λ (o : Option Leg). in_time exts (serves_e s (set_out exts) 0 new) (of (travel_of o)) (home exts (day_e s))) back.1)
        ∙ sym (feasible-is s new (distance_of (given_of s) new) (far (take pos run)) back.0 back.1 (open-all 0 new))
      where
        far : (xs : List ℕ) → distance_from s 0 (xs ++ (c ∷ drop pos run)) ≡ Some (distance_of (given_of s) (xs ++ (c ∷ drop pos run)))
        far [] = run-open s W none-closed 0 (c ∷ drop pos run)
        far (x ∷ xs) = run-open s W none-closed 0 (x ∷ (xs ++ (c ∷ drop pos run)))
