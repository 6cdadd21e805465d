-- A sheet within the limits, part by part: the same as that no test of the refusals finds anything.
use Prim.Native.Nat.{ℕ, ◌*◌, ◌≤◌}
use native.Mathlib.Omega.{arith}
use mathlib.Core.Path.{◌≡◌, refl, ◌∙◌}
use mathlib.Core.Bool.{Bool, true, false, ◌||◌, not, true≢false}
use mathlib.Core.List.{List, [], ◌∷◌, tail, cons≢nil}
use Rattle.std.specs.Prelude.{Option, None, Some}
use mathlib.Core.Logic.{◌⊎◌, inl, inr}
use lib.ListN.{length}
use lib.Seq.{take_all}
use lib.Dec.{eqb, ltb, leb}
use borrow.Author.Tests.{eqb-true, eq-eqb, leb-true, le-ltb}
use Rattle.basics.proofs.TestLaws.{both, and_left, not-false, not-of-true}
use Rattle.basics.specs.Options.{present, Holds, IfAny}
use Rattle.basics.specs.Lists.{All, Passes, Fails, is_empty}
use Rattle.basics.proofs.ListLaws.{all-imp, any-fails, fails-any, fails-not, not-fails}
use Rattle.definitions.specs.Domain.{is_places, is_capacity, is_demand, is_penalty, is_number, is_leg, is_call, most_calls}
use Rattle.definitions.specs.Load.{Load, no_load, each_of}
use Rattle.definitions.specs.Sheet.{Window, Break, Customer, Sheet, records, depot}
use Rattle.definitions.specs.Refusals.{Within, bad_calls, repeats, bad_break, bad_customer, bad_depot, bad_optional, bad_window, break_falls, unfit, window_falls, disagree, closures_differ}
use Rattle.theorems.proofs.Ranges.{TablesEven, tables-even, even-tables, calls-in-range, range-calls, break-in-range, range-break, window-in-range, range-window, customer-in-range, range-customer, depot-in-range, InRange, in-range, range-in, PairsRise, pairs-rise, rise-pairs}
use Rattle.theorems.proofs.Repeats.{tour-few}
use Rattle.round_trip.proofs.Says.{others}

pub record GoodWindow (w : Window) : Type 0 where
  pub ready : is_number w.ready ≡ true
  pub due : is_number w.due ≡ true
  pub rises : ltb w.due w.ready ≡ false

pub record GoodBreak (b : Break) : Type 0 where
  pub earliest : is_number b.earliest ≡ true
  pub latest : is_number b.latest ≡ true
  pub duration : is_number b.duration ≡ true
  pub rises : ltb b.latest b.earliest ≡ false

pub record GoodCustomer (c : Customer) : Type 0 where
  pub demand : each_of is_demand c.demand ≡ true
  pub service : is_number c.service ≡ true
  pub window : Holds GoodWindow c.window
  pub penalty : IfAny is_penalty c.penalty

-- no times, or as many as distances
abbrev pub AsMany : ℕ → List ℕ → Type 0
AsMany m ts = (ts ≡ []) ⊎ (length ts ≡ m)

pub record GoodSheet (s : Sheet) : Type 0 where
  pub places : is_places s.head.places ≡ true
  pub capacity : each_of is_capacity s.head.capacity ≡ true
  pub fixed : is_number s.head.fixed ≡ true
  pub max_distance : IfAny is_number s.head.max_distance
  pub max_duration : IfAny is_number s.head.max_duration
  pub rest : Holds GoodBreak s.head.rest
  pub counted : length s.customers ≡ s.head.places
  pub first : s.customers ≡ depot ∷ others s
  pub customers : All GoodCustomer (others s)
  pub distances : Passes is_leg s.legs.distances
  pub square : length s.legs.distances ≡ s.head.places * s.head.places
  pub times : Passes is_leg s.legs.times
  pub as_many : AsMany (s.head.places * s.head.places) s.legs.times
  -- both tables close the same legs
  pub alike : disagree Some s.legs.distances s.legs.times ≡ false

-- a tour on a sheet with n places
pub record GoodTour (n : ℕ) (tour : List ℕ) : Type 0 where
  pub each : Passes (is_call n) tour
  pub once : repeats tour ≡ false

-- ---- within the limits, so good

limit-good : (p : ℕ → Bool) (o : Option ℕ) → bad_optional Some p o ≡ false → IfAny p o
limit-good p None h = tt
limit-good p (Some v) h = not-false (p v) h

break-good : (b : Option Break) → bad_break Some b ≡ false → break_falls Some b ≡ false → Holds GoodBreak b
break-good None h g = tt
break-good (Some b) h g =
    let R = break-in-range Some b h in
    record {
      earliest = not-false (is_number b.earliest) R.earliest;
      latest = not-false (is_number b.latest) R.latest;
      duration = not-false (is_number b.duration) R.duration;
      rises = g;
    }

window-good : (w : Option Window) → bad_window Some w ≡ false → window_falls Some w ≡ false → Holds GoodWindow w
window-good None h g = tt
window-good (Some w) h g =
    let R = window-in-range Some w h in
    record { ready = not-false (is_number w.ready) R.ready; due = not-false (is_number w.due) R.due; rises = g }

customer-good : (c : Customer) → bad_customer Some c ≡ false → window_falls Some c.window ≡ false → GoodCustomer c
customer-good c h g =
    let R = customer-in-range Some c h in
    record {
      demand = not-false (each_of is_demand c.demand) R.demand;
      service = not-false (is_number c.service) R.service;
      window = window-good c.window R.window g;
      penalty = limit-good is_penalty c.penalty R.penalty;
    }

customers-good : (cs : List Customer) → Fails (bad_customer Some) cs → Fails (λ (c : Customer). window_falls Some c.window) cs → All GoodCustomer cs
customers-good [] h g = tt
customers-good (c ∷ cs) h g = (customer-good c h.0 g.0, customers-good cs h.1 g.1)

all_tail : {A : Type 0} (P : A → Type 0) (l : List A) → All P l → All P (tail l)
all_tail P [] a = a
all_tail P (x ∷ l) a = a.1

absent : {A : Type 0} (o : Option A) → present o ≡ false → o ≡ None
absent None h = refl
absent (Some x) h = absurd (true≢false h)

none-asked : (a : Load) → each_of (λ (n : ℕ). eqb n 0) a ≡ true → a ≡ no_load
none-asked a h =
    let zero-each = both (eqb a.seats 0) (eqb a.wheelchairs 0) h in
    λ i. record { seats = eqb-true a.seats 0 zero-each.0 i; wheelchairs = eqb-true a.wheelchairs 0 zero-each.1 i }

-- the first record is the depot's
first_good : (cs : List Customer) → 1 ≤ length cs → bad_depot Some cs ≡ false → cs ≡ depot ∷ tail cs
first_good [] l h = absurd (no_record l)
  where
    no_record : 1 ≤ 0 → ⊥
    no_record x = omega arith
first_good (c ∷ cs) l h =
    let R = depot-in-range Some c cs h in
    let d = none-asked c.demand (not-false (each_of (λ (n : ℕ). eqb n 0) c.demand) R.demand) in
    let s = eqb-true c.service 0 (not-false (eqb c.service 0) R.service) in
    let w = absent c.window R.window in
    let p = absent c.penalty R.penalty in
    λ i. record { demand = d i; service = s i; window = w i; penalty = p i } ∷ cs

as-many-good : (m : ℕ) (ts : List ℕ) → not (is_empty ts || eqb (length ts) m) ≡ false → AsMany m ts
as-many-good m [] h = inl refl
as-many-good m (t ∷ ts) h = inr (eqb-true (length (t ∷ ts)) m (not-false (eqb (length (t ∷ ts)) m) h))

pub good-sheet : (s : Sheet) → Within s → GoodSheet s
unfolding closures_differ
good-sheet s W =
    record {
      places = placed;
      capacity = not-false (each_of is_capacity s.head.capacity) R.capacity;
      fixed = not-false (is_number s.head.fixed) R.fixed;
      max_distance = limit-good is_number s.head.max_distance R.max_distance;
      max_duration = limit-good is_number s.head.max_duration R.max_duration;
      rest = break-good s.head.rest R.rest P.rest;
      counted = W.counted;
      first = first_good s.customers (omega (arith, W.counted, leb-true 1 s.head.places (and_left (leb 1 s.head.places) (leb s.head.places 64) placed))) (rw all-records at R.depot);
      customers = all_tail GoodCustomer s.customers good-customers;
      distances = fails-not is_leg s.legs.distances (any-fails (unfit Some is_leg) s.legs.distances R.distances);
      square = eqb-true (length s.legs.distances) full (not-false (eqb (length s.legs.distances) full) T.distances);
      times = fails-not is_leg s.legs.times (any-fails (unfit Some is_leg) s.legs.times R.times);
      as_many = as-many-good full s.legs.times T.times;
      alike = W.closed-alike;
    }
  where
    R : InRange Some s
    R = in-range Some s W.ranged

    T : TablesEven s
    T = tables-even s W.tables

    P : PairsRise Some s
    P = pairs-rise Some s W.paired

    full : ℕ
    full = s.head.places * s.head.places

    placed : is_places s.head.places ≡ true
    placed = not-false (is_places s.head.places) R.places

    all-records : records s ≡ s.customers
    all-records = take_all s.head.places s.customers (omega (arith, W.counted))

    good-customers : All GoodCustomer s.customers
    good-customers =
        customers-good s.customers (any-fails (bad_customer Some) s.customers (rw all-records at R.customers))
        (any-fails (λ (c : Customer). window_falls Some c.window) s.customers (rw all-records at P.windows))

pub good-tour : (n : ℕ) (tour : List ℕ) → bad_calls n tour ≡ false → repeats tour ≡ false → GoodTour n tour
good-tour n tour h o =
    let C = calls-in-range n tour h in
    record { each = fails-not (is_call n) tour (any-fails (λ (c : ℕ). not (is_call n c)) tour C.each); once = o }

-- ---- good, so within the limits

good-limit : (p : ℕ → Bool) (o : Option ℕ) → IfAny p o → bad_optional Some p o ≡ false
good-limit p None h = refl
good-limit p (Some v) h = not-of-true (p v) h

good-break : (b : Option Break) → Holds GoodBreak b → bad_break Some b ≡ false
good-break None G = refl
good-break (Some b) G =
    range-break Some b
    (record {
      earliest = not-of-true (is_number b.earliest) G.earliest;
      latest = not-of-true (is_number b.latest) G.latest;
      duration = not-of-true (is_number b.duration) G.duration;
    })

break-rises : (b : Option Break) → Holds GoodBreak b → break_falls Some b ≡ false
break-rises None G = refl
break-rises (Some b) G = G.rises

good-window : (w : Option Window) → Holds GoodWindow w → bad_window Some w ≡ false
good-window None G = refl
good-window (Some w) G = range-window Some w (record { ready = not-of-true (is_number w.ready) G.ready; due = not-of-true (is_number w.due) G.due })

window-rises : (w : Option Window) → Holds GoodWindow w → window_falls Some w ≡ false
window-rises None G = refl
window-rises (Some w) G = G.rises

good-customer : (c : Customer) → GoodCustomer c → bad_customer Some c ≡ false
good-customer c G =
    range-customer Some c
    (record {
      demand = not-of-true (each_of is_demand c.demand) G.demand;
      service = not-of-true (is_number c.service) G.service;
      window = good-window c.window G.window;
      penalty = good-limit is_penalty c.penalty G.penalty;
    })

good-as-many : (m : ℕ) (ts : List ℕ) → AsMany m ts → not (is_empty ts || eqb (length ts) m) ≡ false
good-as-many m [] a = refl
good-as-many m (t ∷ ts) (inl e) = absurd (cons≢nil e)
good-as-many m (t ∷ ts) (inr e) = not-of-true (eqb (length (t ∷ ts)) m) (eq-eqb (length (t ∷ ts)) m e)

pub good-within : (s : Sheet) → GoodSheet s → Within s
unfolding closures_differ
good-within s G =
    record {
      counted = G.counted;
      tables = even-tables s (record {
        distances = not-of-true (eqb (length s.legs.distances) full) (eq-eqb (length s.legs.distances) full G.square);
        times = good-as-many full s.legs.times G.as_many;
      });
      ranged = range-in Some s (record {
        places = not-of-true (is_places s.head.places) G.places;
        capacity = not-of-true (each_of is_capacity s.head.capacity) G.capacity;
        fixed = not-of-true (is_number s.head.fixed) G.fixed;
        max_distance = good-limit is_number s.head.max_distance G.max_distance;
        max_duration = good-limit is_number s.head.max_duration G.max_duration;
        rest = good-break s.head.rest G.rest;
        depot = rw all-records refl;
        customers = rw all-records (fails-any (bad_customer Some) (others s) (all-imp GoodCustomer (λ (c : Customer). bad_customer Some c ≡ false) good-customer (others s) G.customers));
        distances = fails-any (unfit Some is_leg) s.legs.distances (not-fails is_leg s.legs.distances G.distances);
        times = fails-any (unfit Some is_leg) s.legs.times (not-fails is_leg s.legs.times G.times);
      });
      paired = rise-pairs Some s (record {
        rest = break-rises s.head.rest G.rest;
        windows = rw all-records (fails-any (λ (c : Customer). window_falls Some c.window) (others s)
            (all-imp GoodCustomer (λ (c : Customer). window_falls Some c.window ≡ false) (λ c g. window-rises c.window g.window) (others s) G.customers));
      });
      closed-alike = G.alike;
    }
  where
    full : ℕ
    full = s.head.places * s.head.places

    all-records : records s ≡ depot ∷ others s
    all-records = take_all s.head.places s.customers (omega (arith, G.counted)) ∙ G.first

pub good-within-tour : (n : ℕ) (tour : List ℕ) → is_places n ≡ true → GoodTour n tour → bad_calls n tour ≡ false
good-within-tour n tour p G =
    range-calls n tour
    (record {
      few = le-ltb most_calls (length tour) (omega (arith, tour-few n tour p G.each G.once));
      each = fails-any (λ (c : ℕ). not (is_call n c)) tour (not-fails (is_call n) tour G.each);
    })
