-- The tests of the refusals by name: what is known where a test of several fails, and that all of it together is that test.
use Prim.Native.Nat.{ℕ, zero, suc, ◌*◌}
use mathlib.Core.Path.{◌≡◌, refl}
use mathlib.Core.Bool.{Bool, false, ◌&&◌, ◌||◌, not}
use mathlib.Core.List.{List, [], ◌∷◌}
use Rattle.std.specs.Prelude.{Option, None, Some}
use lib.ListN.{length, get_or}
use lib.Dec.{ltb, eqb}
use Rattle.basics.proofs.TestLaws.{or_left, or_right}
use Rattle.basics.specs.Tests.{either}
use Rattle.basics.specs.Options.{present}
use Rattle.basics.specs.Lists.{is_empty, any}
use Rattle.definitions.specs.Domain.{is_places, is_capacity, is_demand, is_penalty, is_number, is_leg, is_call, most_calls}
use Rattle.definitions.specs.Load.{each_of}
use Rattle.definitions.specs.Sheet.{WindowOf, BreakOf, CustomerOf, SheetOf, records}
use Rattle.definitions.specs.Room.{short}
use Rattle.definitions.specs.Lent.{Lent, Call}
use Rattle.definitions.specs.Refusals.{too_short, tables_odd, bad_calls, bad_tour, bad_run_list, unfit, bad_optional, bad_break, bad_window, bad_customer, bad_depot, bad_sheet, out_of_range, window_falls, break_falls, pairs_fall, ends_fall, empty_run, break_beyond, runs_odd, refusals, refusal_of}
use Rattle.theorems.proofs.InOrder.{test_of, none-fits}

-- ---- several tests that all fail, each by its number from 0

each : (bs : List Bool) → either bs ≡ false → (k : ℕ) → get_or bs k false ≡ false
each [] h k = refl
each (b ∷ bs) h zero = or_left b (either bs) h
each (b ∷ bs) h (suc k) = each bs (or_right b (either bs) h) k

-- ---- 13

pub record LongEnough {F : Type 0} (k : Call) (l : Lent F) : Type 0 where
  pub customers : ltb (length l.sheet.customers) l.sheet.head.places ≡ false
  pub results : short (k.needs (length l.tour) (length l.calls) (length l.ends)) l.rooms ≡ false
  pub breaks : k.marks && ltb (length l.breaks) (length l.ends) ≡ false

pub long-enough : {F : Type 0} (k : Call) (l : Lent F) → too_short k l ≡ false → LongEnough k l
long-enough k l h =
    let f =
    each
    (ltb (length l.sheet.customers) l.sheet.head.places
    ∷ short (k.needs (length l.tour) (length l.calls) (length l.ends)) l.rooms
    ∷ (k.marks && ltb (length l.breaks) (length l.ends))
    ∷ []) h
    in
    record { customers = f 0; results = f 1; breaks = f 2 }

-- ---- 14

pub record TablesEven {F : Type 0} (s : SheetOf F) : Type 0 where
  pub distances : not (eqb (length s.legs.distances) (s.head.places * s.head.places)) ≡ false
  pub times : not (is_empty s.legs.times || eqb (length s.legs.times) (s.head.places * s.head.places)) ≡ false

pub tables-even : {F : Type 0} (s : SheetOf F) → tables_odd s ≡ false → TablesEven s
tables-even s h =
    let d = not (eqb (length s.legs.distances) (s.head.places * s.head.places)) in
    let t = not (is_empty s.legs.times || eqb (length s.legs.times) (s.head.places * s.head.places)) in
    record { distances = or_left d t h; times = or_right d t h }

pub even-tables : {F : Type 0} (s : SheetOf F) → TablesEven s → tables_odd s ≡ false
even-tables s T = rw (T.distances, T.times)

-- ---- calls

pub record CallsInRange (places : ℕ) (calls : List ℕ) : Type 0 where
  pub few : ltb most_calls (length calls) ≡ false
  pub each : any (λ (c : ℕ). not (is_call places c)) calls ≡ false

pub calls-in-range : (places : ℕ) (calls : List ℕ) → bad_calls places calls ≡ false → CallsInRange places calls
calls-in-range places calls h =
    let many = ltb most_calls (length calls) in
    let strange = any (λ (c : ℕ). not (is_call places c)) calls in
    record { few = or_left many strange h; each = or_right many strange h }

pub range-calls : (places : ℕ) (calls : List ℕ) → CallsInRange places calls → bad_calls places calls ≡ false
range-calls places calls C = rw (C.few, C.each)

module _ {F : Type 0} (value : F → Option ℕ) where
  -- ---- 1, by the parts of a sheet

  pub record BreakInRange (b : BreakOf F) : Type 0 where
    pub earliest : unfit value is_number b.earliest ≡ false
    pub latest : unfit value is_number b.latest ≡ false
    pub duration : unfit value is_number b.duration ≡ false

  pub break-in-range : (b : BreakOf F) → bad_break value (Some b) ≡ false → BreakInRange b
  break-in-range b h =
      let f = each (unfit value is_number b.earliest ∷ unfit value is_number b.latest ∷ unfit value is_number b.duration ∷ []) h in
      record { earliest = f 0; latest = f 1; duration = f 2 }

  pub range-break : (b : BreakOf F) → BreakInRange b → bad_break value (Some b) ≡ false
  range-break b R = rw (R.earliest, R.latest, R.duration)

  pub record WindowInRange (w : WindowOf F) : Type 0 where
    pub ready : unfit value is_number w.ready ≡ false
    pub due : unfit value is_number w.due ≡ false

  pub window-in-range : (w : WindowOf F) → bad_window value (Some w) ≡ false → WindowInRange w
  window-in-range w h =
      let r = unfit value is_number w.ready in
      let d = unfit value is_number w.due in
      record { ready = or_left r d h; due = or_right r d h }

  pub range-window : (w : WindowOf F) → WindowInRange w → bad_window value (Some w) ≡ false
  range-window w R = rw (R.ready, R.due)

  pub record CustomerInRange (c : CustomerOf F) : Type 0 where
    pub demand : not (each_of is_demand c.demand) ≡ false
    pub service : unfit value is_number c.service ≡ false
    pub window : bad_window value c.window ≡ false
    pub penalty : bad_optional value is_penalty c.penalty ≡ false

  pub customer-in-range : (c : CustomerOf F) → bad_customer value c ≡ false → CustomerInRange c
  customer-in-range c h =
      let f = each (not (each_of is_demand c.demand) ∷ unfit value is_number c.service ∷ bad_window value c.window ∷ bad_optional value is_penalty c.penalty ∷ []) h in
      record { demand = f 0; service = f 1; window = f 2; penalty = f 3 }

  pub range-customer : (c : CustomerOf F) → CustomerInRange c → bad_customer value c ≡ false
  range-customer c R = rw (R.demand, R.service, R.window, R.penalty)

  -- a depot's record has nothing in it
  pub record DepotInRange (c : CustomerOf F) : Type 0 where
    pub demand : not (each_of (λ (n : ℕ). eqb n 0) c.demand) ≡ false
    pub service : unfit value (λ (n : ℕ). eqb n 0) c.service ≡ false
    pub window : present c.window ≡ false
    pub penalty : present c.penalty ≡ false

  pub depot-in-range : (c : CustomerOf F) (cs : List (CustomerOf F)) → bad_depot value (c ∷ cs) ≡ false → DepotInRange c
  depot-in-range c cs h =
      let f = each (not (each_of (λ (n : ℕ). eqb n 0) c.demand) ∷ unfit value (λ (n : ℕ). eqb n 0) c.service ∷ present c.window ∷ present c.penalty ∷ []) h in
      record { demand = f 0; service = f 1; window = f 2; penalty = f 3 }

  pub range-depot : (c : CustomerOf F) (cs : List (CustomerOf F)) → DepotInRange c → bad_depot value (c ∷ cs) ≡ false
  range-depot c cs R = rw (R.demand, R.service, R.window, R.penalty)

  -- ---- 1, of a sheet

  pub record InRange (s : SheetOf F) : Type 0 where
    pub places : not (is_places s.head.places) ≡ false
    pub capacity : not (each_of is_capacity s.head.capacity) ≡ false
    pub fixed : unfit value is_number s.head.fixed ≡ false
    pub max_distance : bad_optional value is_number s.head.max_distance ≡ false
    pub max_duration : bad_optional value is_number s.head.max_duration ≡ false
    pub rest : bad_break value s.head.rest ≡ false
    pub depot : bad_depot value (records s) ≡ false
    pub customers : any (bad_customer value) (records s) ≡ false
    pub distances : any (unfit value is_leg) s.legs.distances ≡ false
    pub times : any (unfit value is_leg) s.legs.times ≡ false

  pub in-range : (s : SheetOf F) → bad_sheet value s ≡ false → InRange s
  unfolding bad_sheet
  in-range s h =
      record {
        places = f 0;
        capacity = f 1;
        fixed = f 2;
        max_distance = f 3;
        max_duration = f 4;
        rest = f 5;
        depot = f 6;
        customers = f 7;
        distances = f 8;
        times = f 9;
      }
    where
      tests : List Bool
      tests =
          not (is_places s.head.places)
          ∷ not (each_of is_capacity s.head.capacity)
          ∷ unfit value is_number s.head.fixed
          ∷ bad_optional value is_number s.head.max_distance
          ∷ bad_optional value is_number s.head.max_duration
          ∷ bad_break value s.head.rest
          ∷ bad_depot value (records s)
          ∷ any (bad_customer value) (records s)
          ∷ any (unfit value is_leg) s.legs.distances
          ∷ any (unfit value is_leg) s.legs.times
          ∷ []

      f : (k : ℕ) → get_or tests k false ≡ false
      f = each tests h

  pub range-in : (s : SheetOf F) → InRange s → bad_sheet value s ≡ false
  unfolding bad_sheet
  range-in s R =
      rw (
        R.places,
        R.capacity,
        R.fixed,
        R.max_distance,
        R.max_duration,
        R.rest,
        R.depot,
        R.customers,
        R.distances,
        R.times,
      )

  -- ---- 1, of all that is lent

  pub record LentInRange (l : Lent F) : Type 0 where
    pub sheet : bad_sheet value l.sheet ≡ false
    pub tour : bad_tour l.sheet.head.places l.tour ≡ false
    pub run-list : bad_run_list l.sheet.head.places l.calls ≡ false

  pub lent-in-range : (l : Lent F) → out_of_range value l ≡ false → LentInRange l
  unfolding out_of_range
  lent-in-range l h =
      let f = each (bad_sheet value l.sheet ∷ bad_tour l.sheet.head.places l.tour ∷ bad_run_list l.sheet.head.places l.calls ∷ []) h in
      record { sheet = f 0; tour = f 1; run-list = f 2 }

  pub range-lent : (l : Lent F) → LentInRange l → out_of_range value l ≡ false
  unfolding out_of_range
  range-lent l R = rw (R.sheet, R.tour, R.run-list)

  -- ---- 2

  pub record PairsRise (s : SheetOf F) : Type 0 where
    pub rest : break_falls value s.head.rest ≡ false
    pub windows : any (λ (c : CustomerOf F). window_falls value c.window) (records s) ≡ false

  pub pairs-rise : (s : SheetOf F) → pairs_fall value s ≡ false → PairsRise s
  unfolding pairs_fall
  pairs-rise s h =
      let b = break_falls value s.head.rest in
      let w = any (λ (c : CustomerOf F). window_falls value c.window) (records s) in
      record { rest = or_left b w h; windows = or_right b w h }

  pub rise-pairs : (s : SheetOf F) → PairsRise s → pairs_fall value s ≡ false
  unfolding pairs_fall
  rise-pairs s R = rw (R.rest, R.windows)

  -- ---- the list of refusals

  -- the test of this number, as the list has it
  abbrev pub fits_by : ℕ → Call → Lent F → Bool
  unfolding refusals
  fits_by n k l = test_of n (refusals value k l)

  -- where the call is accepted it fails, as `not-refused k l h 13 : too_short k l ≡ false`
  pub not-refused : (k : Call) (l : Lent F) → refusal_of value k l ≡ None → (n : ℕ) → fits_by n k l ≡ false
  unfolding refusal_of refusals
  not-refused k l h n = none-fits (refusals value k l) h n

-- ---- 5

pub record RunsEven {F : Type 0} (k : Call) (l : Lent F) : Type 0 where
  pub few : k.takes_ends && ltb most_calls (length l.ends) ≡ false
  pub ends : k.takes_ends && ends_fall 0 l.ends (length l.calls) ≡ false
  pub some-call : k.marks && empty_run 0 l.ends ≡ false
  pub breaks : k.marks && break_beyond (present l.sheet.head.rest) 0 l.ends l.breaks ≡ false

pub runs-even : {F : Type 0} (k : Call) (l : Lent F) → runs_odd k l ≡ false → RunsEven k l
runs-even k l h =
    let f =
    each
    ((k.takes_ends && ltb most_calls (length l.ends))
    ∷ (k.takes_ends && ends_fall 0 l.ends (length l.calls))
    ∷ (k.marks && empty_run 0 l.ends)
    ∷ (k.marks && break_beyond (present l.sheet.head.rest) 0 l.ends l.breaks)
    ∷ []) h
    in
    record { few = f 0; ends = f 1; some-call = f 2; breaks = f 3 }

pub even-runs : {F : Type 0} (k : Call) (l : Lent F) → RunsEven k l → runs_odd k l ≡ false
even-runs k l R = rw (R.few, R.ends, R.some-call, R.breaks)
