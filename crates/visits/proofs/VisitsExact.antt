-- On a sheet within the limits, held in floats, the calls of a run are visited as in crates/definitions. Assumes nothing.
use Prim.Native.Nat.{ℕ, suc, ◌+◌, ◌-◌, ◌≤◌, ◌<◌, max}
use native.Mathlib.Omega.{arith}
use native.Mathlib.Nat.{add-zero}
use mathlib.Core.Path.{◌≡◌, refl, sym, ap, ◌∙◌}
use mathlib.Core.Bool.{Bool, not}
use mathlib.Core.List.{List, [], ◌∷◌, map}
use Rattle.std.specs.Prelude.{Option, None, Some, option_map}
use lib.Dec.{eqb}
use lib.ListN.{length}
use lib.Ieee as Ieee
use lib.Ieee.{Float, binary64}
use Rattle.basics.proofs.TestLaws.{by-test}
use Rattle.basics.specs.Options.{Holds, present, value_or}
use Rattle.basics.proofs.OptionLaws.{same, clash}
use Rattle.basics.specs.Lists.{All}
use Rattle.definitions.specs.Domain.{most_calls}
use Rattle.definitions.specs.Load.{Load, plus}
use Rattle.definitions.specs.Sheet.{Window, Break, Customer, Sheet, Leg, customer, drive}
use Rattle.definitions.specs.Window.{due_of, begins, Entry, enter}
use Rattle.definitions.specs.Run as Whole
use Rattle.definitions.specs.Run.{break_at, last_of, distance_from, closed_from, load}
use Rattle.definitions.specs.Visits.{window_shut, arrives_at, ready_for, entered, visited, visits_from, windows_from, last_label}
use Rattle.definitions.proofs.LoadLaws.{plus_none, plus_assoc}
use Rattle.bounds.specs.Sized.{Small, SmallWindow, SmallBreak, SmallCustomer, Sized, Place}
use Rattle.theorems.proofs.Roads.{by-leg, distance-on}
use Rattle.theorems.proofs.Visiting.{arrives-by}
use Rattle.bounds.proofs.Inside.{leg-small, customer-small, break-small}
use Rattle.bounds.specs.Bounds.{Early, ready_by}
use Rattle.bounds.proofs.BoundLaws.{begins-most, enter-most, readiness-most, visited-early}
use Rattle.whole.specs.Whole.{fl, limit}
use Rattle.whole.proofs.WholeLaws.{fl-add, fl-sum}
use Rattle.models.specs.Image.{fl_window, fl_customer}
use Rattle.models.proofs.Exact.{waiting-exact, due-exact}
use Rattle.distance.specs.declared.leg.Leg as Held
use Rattle.distance.proofs.Exact.{fl_leg}
use Rattle.clock.specs.Image.{fl_label}
use Rattle.clock.proofs.ServingExact.{enter-exact}
use Rattle.evaluation.specs.Records.{Tables}
use Rattle.evaluation.specs.Image.{Image}
use Rattle.evaluation.proofs.ClockExact.{record-exact, leg-exact}
use Rattle.visits.specs.Visiting.{RestF, TripF, ready_at_f, begin_f, served_by, served_f, visit_f, open_f, visit_at_f, visits_f, windows_f, trip_f}
use Rattle.visits.specs.Image.{fl_visit, fl_violation}
use Rattle.visits.proofs.Resting.{length_of, ready_at, Agrees}

-- the label without its break place, which the trip does not carry
abbrev unplaced : Whole.Label → Whole.Label
unplaced l = record { time = l.time; lateness = l.lateness; pay = l.pay; place = 0 }

-- a trip so far, with the distance as travelled
abbrev pub fl_trip : Float → Whole.Label → Load → ℕ → TripF
fl_trip far l carried a = record { label = fl_label (unplaced l); distance = far; load = carried; prev = a }

-- the break by its place and start
abbrev pub fl_rest : Sheet → ℕ → Option ℕ → Bool → RestF
fl_rest s place o missing = record { place = place; start = option_map fl o; duration = fl (length_of s.head.rest); missing = missing }

length-small : (o : Option Break) → Holds SmallBreak o → Small (length_of o)
length-small None B = omega arith
length-small (Some b) B = B.duration-small

pub ready-exact : (s : Sheet) → Sized s → (place : ℕ) (o : Option ℕ) (missing : Bool) → Holds (λ (n : ℕ). n ≤ limit) o → (k arrival : ℕ)
    → ready_at_f (fl_rest s place o missing) k (fl arrival) ≡ fl (ready_at s place o k arrival)
unfolding ready_at_f
ready-exact s S place None missing O k arrival = refl
ready-exact s S place (Some from) missing O k arrival =
    by-test (eqb place k) (λ y. rw (y, fl-add from (length_of s.head.rest) O (omega (arith, length-small s.head.rest S.rest-small)))) (λ n. rw n)

-- ---- a call after k others

module _ (k : ℕ) (few : k < most_calls) where
  pub begin-exact : (w : Option Window) → Holds SmallWindow w → (r : ℕ) → r ≤ ready_by k → begin_f (option_map fl_window w) (fl r) ≡ fl (begins w r)
  unfolding begin_f
  begin-exact None W r h = refl
  begin-exact (Some w) W r h =
      let z : r + (w.ready - r) ≡ max r w.ready = omega arith in
      rw (waiting-exact w r (omega arith) (omega arith) (omega arith), fl-add r (w.ready - r) (omega arith) (omega arith), z)

  module _ (c : Customer) (C : SmallCustomer c) (l : Whole.Label) (E : Early k l) (r : ℕ) (h : r ≤ ready_by k) where
    -- the label as the call is left
    abbrev left : Option Entry → Whole.Label
    left o =
        let e = value_or (record { start = begins c.window r; lateness = 0; pay = 0 }) o in
        record { time = e.start + c.service; lateness = l.lateness + e.lateness; pay = l.pay + e.pay; place = 0 }

    served-exact : served_f (fl_customer c) (fl r) (fl_label (unplaced l)) ≡ record { label = fl_label (left (enter c.window c.penalty r)); shut = not (present (enter c.window c.penalty r)) }
    unfolding served_f
    served-exact =
        let F : Early k (unplaced l) = record { time-most = E.time-most; lateness-most = E.lateness-most; pay-most = E.pay-most } in
        rw (enter-exact k few (unplaced l) F r h c.window C.window-small c.penalty C.penalty-small)
        (go (enter c.window c.penalty r) refl)
      where
        go : (o : Option Entry) → enter c.window c.penalty r ≡ o
            → served_by (fl_customer c) (fl r) (fl_label (unplaced l))
            (option_map (λ (e : Entry). fl_label (record { time = e.start; lateness = l.lateness + e.lateness; pay = l.pay + e.pay; place = 0 })) o)
            ≡ record { label = fl_label (left o); shut = not (present o) }
        go None q =
            let z = begins-most c.window C.window-small k r h in
            rw (begin-exact c.window C.window-small r h, fl-add (begins c.window r) c.service (omega arith) (omega (arith, C.service-small)), add-zero l.lateness, add-zero l.pay)
        go (Some e) q =
            let s = enter-most k few c.window c.penalty C.window-small C.penalty-small r h e q in
            rw (fl-add e.start c.service (omega arith) (omega (arith, C.service-small)))

-- ---- the walk

-- where no leg is closed, the first can be driven and none of the others is closed
road-on : (s : Sheet) (j a c : ℕ) (cs : List ℕ) → closed_from s j a (c ∷ cs) ≡ None → (g : Leg) × (drive s a c ≡ Some g) × (closed_from s (suc j) c cs ≡ None)
unfolding closed_from
road-on s j a c cs q = by-leg s a c (λ f. clash (sym (rw f at q))) (λ g e. (g, e, rw e at q))

-- the calls from number j on, k others visited, from place a with the label l
pub record Onward (s : Sheet) (place : ℕ) (o : Option ℕ) (k j a : ℕ) (l : Whole.Label) (calls : List ℕ) : Type 0 where
  pub few : k + length calls ≤ most_calls
  pub from-inside : Place s a
  pub calls-inside : All (Place s) calls
  pub early : Early k l
  pub agreed : Agrees s place o j a l calls
  pub roads : closed_from s j a calls ≡ None

module _ (s : Sheet) (S : Sized s) (t : Tables) (I : Image s t) (place : ℕ) (o : Option ℕ) (missing : Bool) (O : Holds (λ (n : ℕ). n ≤ limit) o) where
  abbrev R : RestF
  R = fl_rest s place o missing

  -- a leg that can be driven, in floats
  pub open-exact : (a c : ℕ) → Place s a → Place s c → (g : Leg) → drive s a c ≡ Some g → open_f t a c ≡ fl_leg g
  open-exact a c p q g e = ap (λ (x : Option Held.Leg). value_or (record { distance = fl 0; time = fl 0 }) x) (leg-exact s S t I a c p q ∙ ap (option_map fl_leg) e)

  module _ (k j a : ℕ) (l : Whole.Label) (c : ℕ) (cs : List ℕ) (H : Onward s place o k j a l (c ∷ cs)) where
    -- call number j
    abbrev next : Whole.Label
    next = visited s (break_at s place j) j a c l

    abbrev readiness : ℕ
    readiness = ready_for s (break_at s place j) a c l

    pub onward : Onward s place o (suc k) (suc j) c next cs
    onward =
        record {
          few = omega arith;
          from-inside = H.calls-inside.0;
          calls-inside = H.calls-inside.1;
          early = visited-early s S k (omega arith) (break_at s place j) (break-small s S place j) j a c l H.early;
          agreed = H.agreed.1;
          roads = (road-on s j a c cs H.roads).2;
        }

    arrival-exact : Ieee.add binary64 (fl l.time) (open_f t a c).time ≡ fl (arrives_at s a c l)
    arrival-exact =
        let (g, e, rest) = road-on s j a c cs H.roads in
        let E = H.early in
        rw (open-exact a c H.from-inside H.calls-inside.0 g e, arrives-by s l a c g e)
        (fl-add l.time g.travel (omega arith) (omega (arith, (leg-small s S a c g e).1)))

    visit-exact : (far : Float) (carried : Load)
        → visit_at_f t R j (fl_trip far l carried a) c
        ≡ record {
          trip = fl_trip (Ieee.add binary64 far (open_f t a c).distance) next (plus carried (customer s c).demand) c;
          visit = fl_visit (record { customer = c; arrival = arrives_at s a c l; departure = next.time; load = plus carried (customer s c).demand });
          violation = fl_violation (window_shut c readiness (due_of (customer s c).window));
          shut = not (present (entered s c readiness));
        }
    unfolding visit_f visited
    visit-exact far carried =
        let few : k < most_calls = omega arith in
        let E = H.early in
        rw (
          record-exact s S t I c H.calls-inside.0,
          arrival-exact,
          ready-exact s S place o missing O j (arrives_at s a c l),
          H.agreed.0,
        )
        (let most = readiness-most s S k few (break_at s place j) (break-small s S place j) j a c l E in
        rw (served-exact k few (customer s c) (customer-small s S c) l E readiness most, due-exact (customer s c).window))

  pub visits-exact : (k j a : ℕ) (far : Float) (l : Whole.Label) (carried : Load) (calls : List ℕ) → Onward s place o k j a l calls
      → visits_f t R j (fl_trip far l carried a) calls ≡ map fl_visit (visits_from s place j a l carried calls)
  unfolding visits_f visits_from
  visits-exact k j a far l carried [] H = refl
  visits-exact k j a far l carried (c ∷ cs) H =
      let farther = Ieee.add binary64 far (open_f t a c).distance in
      let rest = visits-exact (suc k) (suc j) c farther (next k j a l c cs H) (plus carried (customer s c).demand) cs (onward k j a l c cs H) in
      rw (visit-exact k j a l c cs H far carried, rest)

  pub windows-exact : (k j a : ℕ) (far : Float) (l : Whole.Label) (carried : Load) (calls : List ℕ) → Onward s place o k j a l calls
      → windows_f t R j (fl_trip far l carried a) calls ≡ map fl_violation (windows_from s place j a l calls)
  unfolding windows_f windows_from
  windows-exact k j a far l carried [] H = refl
  windows-exact k j a far l carried (c ∷ cs) H =
      let farther = Ieee.add binary64 far (open_f t a c).distance in
      let rest = windows-exact (suc k) (suc j) c farther (next k j a l c cs H) (plus carried (customer s c).demand) cs (onward k j a l c cs H) in
      rw (visit-exact k j a l c cs H far carried, rest)
      (by-test (present (entered s c (readiness k j a l c cs H))) (λ y. rw y) (λ n. rw n))

  -- with so far gone before them, and the way home `w`
  pub trip-exact : (k j a far : ℕ) (l : Whole.Label) (carried : Load) (calls : List ℕ) (d : ℕ) → distance_from s a calls ≡ Some d → (w : Leg) → drive s (last_of a calls) 0 ≡ Some w
      → far + d ≤ limit → Onward s place o k j a l calls
      → (gone : ℕ) × (gone + w.length ≡ far + d) × (trip_f t R j (fl_trip (fl far) l carried a) calls ≡ fl_trip (fl gone) (last_label s place j a l calls) (plus carried (load s calls)) (last_of a calls))
  unfolding trip_f last_label
  trip-exact k j a far l carried [] d r w b h H = (far, ap (λ (n : ℕ). far + n) (same (rw b at r)), ap (λ (n : Load). fl_trip (fl far) l n a) (sym (plus_none carried)))
  trip-exact k j a far l carried (c ∷ cs) d r w b h H =
      let (g, e, d', rest, sum) = distance-on s a c cs d r in
      let (gone, all, trip) =
      trip-exact (suc k) (suc j) c (far + g.length) (next k j a l c cs H) (plus carried (customer s c).demand) cs d' rest w b (omega arith) (onward k j a l c cs H) in
      let driven = open-exact a c H.from-inside H.calls-inside.0 g e in (
        gone,
        omega (arith, all, sum),
        rw (visit-exact k j a l c cs H (fl far) carried, driven, fl-sum far g.length (omega arith), ← plus_assoc carried (customer s c).demand (load s cs)) trip,
      )
