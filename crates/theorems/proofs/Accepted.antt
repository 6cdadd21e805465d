-- A call is accepted exactly when it is lent a sheet that means one within the limits, calls of it, in a tour none repeated, even runs, and lists that are long enough.
use Prim.Native.Nat.{ℕ, ◌≤◌}
use native.Mathlib.Omega.{arith}
use mathlib.Core.Logic.{◌↔◌}
use mathlib.Core.Path.{◌≡◌, refl, sym, ap, ◌∙◌}
use mathlib.Core.Bool.{Bool, true, false, ◌&&◌, ◌||◌, not, true≢false, false≢true}
use mathlib.Core.List.{List, [], ◌∷◌, map}
use Rattle.std.specs.Prelude.{Option, None, Some, option_map}
use lib.ListN.{length, length-map}
use lib.Seq.{take_all, length-take-le}
use lib.Dec.{eqb, ltb}
use borrow.Author.Tests.{ltb-false, le-ltb}
use Rattle.basics.proofs.TestLaws.{or_left, or_right, or-false, not-false, not-of-true}
use Rattle.basics.specs.Options.{holds, present, value_or}
use Rattle.basics.specs.Lists.{is_empty, any}
use Rattle.basics.proofs.ListLaws.{all-imp, all_map, any-fails, fails-any, fails-not}
use Rattle.definitions.specs.Domain.{is_places, is_penalty, is_number, is_closed, closed_apart, is_leg, is_call}
use Rattle.definitions.specs.Sheet.{WindowOf, BreakOf, CustomerOf, LegsOf, SheetOf, Customer, records, soft, any_soft, lateness_pay, map_window, map_break, map_customer, map_legs}
use Rattle.definitions.specs.Room.{short}
use Rattle.definitions.specs.Lent.{Lent, whole, whole_sheet, Call}
use Rattle.definitions.specs.Refusals.{too_short, Within, WithinCalls, tables_odd, unfit, bad_optional, bad_break, bad_window, bad_customer, bad_depot, bad_sheet, window_falls, break_falls, pairs_fall, disagree, closures_differ, any_closed, repeats, refusals, refusal_of}
use Rattle.theorems.proofs.Ranges.{calls-in-range, LongEnough, long-enough, RunsEven, runs-even, even-runs, break-in-range, range-break, window-in-range, range-window, customer-in-range, range-customer, depot-in-range, range-depot, InRange, in-range, range-in, LentInRange, lent-in-range, range-lent, PairsRise, pairs-rise, rise-pairs, fits_by, not-refused}
use Rattle.theorems.proofs.InOrder.{fits-none, ◌also◌}
use Rattle.theorems.proofs.Repeats.{tour-few}

-- ---- lists long enough

-- each list needed is there, and at least so long
abbrev pub AtLeast : List ℕ → List ℕ → Type 0
AtLeast [] rooms = Unit {0}
AtLeast (n ∷ needs) [] = ⊥
AtLeast (n ∷ needs) (r ∷ rooms) = (n ≤ r) × AtLeast needs rooms

pub at_least : (needs rooms : List ℕ) → short needs rooms ≡ false → AtLeast needs rooms
at_least [] rooms h = tt
at_least (n ∷ needs) [] h = absurd (true≢false h)
at_least (n ∷ needs) (r ∷ rooms) h = (ltb-false r n (or_left (ltb r n) (short needs rooms) h), at_least needs rooms (or_right (ltb r n) (short needs rooms) h))

none-short : (needs rooms : List ℕ) → AtLeast needs rooms → short needs rooms ≡ false
none-short [] rooms a = refl
none-short (n ∷ needs) [] a = absurd a
none-short (n ∷ needs) (r ∷ rooms) a = or-false (ltb r n) (short needs rooms) (le-ltb r n a.0) (none-short needs rooms a.1)

-- a test that is made only of some calls
only-where : (b t : Bool) → (b ≡ true → t ≡ false) → b && t ≡ false
only-where true t h = h refl
only-where false t h = refl

-- ---- tests and their elements' images

module _ {A B : Type 0} (g : A → B) where
  any-imp : (p : A → Bool) (q : B → Bool) → ((x : A) → p x ≡ false → q (g x) ≡ false) → (l : List A) → any p l ≡ false → any q (map g l) ≡ false
  any-imp p q h l e =
      fails-any q (map g l) (all_map (λ (y : B). q y ≡ false) g l (all-imp (λ (x : A). p x ≡ false) (λ (x : A). q (g x) ≡ false) h l (any-fails p l e)))

  any_same : (p : A → Bool) (q : B → Bool) → ((x : A) → q (g x) ≡ p x) → (l : List A) → any q (map g l) ≡ any p l
  any_same p q h [] = refl
  any_same p q h (x ∷ l) = λ i. h x i || any_same p q h l i

  pub present-same : (o : Option A) → present (option_map g o) ≡ present o
  present-same None = refl
  present-same (Some x) = refl

  empty-same : (l : List A) → is_empty (map g l) ≡ is_empty l
  empty-same [] = refl
  empty-same (x ∷ l) = refl

module _ {F : Type 0} (value : F → Option ℕ) where
  -- ---- what is fit means what is fit

  -- a number that is fit is held, and passes the test
  pub held : (p : ℕ → Bool) (x : F) → unfit value p x ≡ false → (value x ≡ Some (whole value x)) × (p (whole value x) ≡ true)
  held p x h = go (value x) (not-false (holds (value x) p) h)
    where
      go : (o : Option ℕ) → holds o p ≡ true → (o ≡ Some (value_or 0 o)) × (p (value_or 0 o) ≡ true)
      go None e = absurd (false≢true e)
      go (Some n) e = (refl, e)

  fit : (p : ℕ → Bool) (x : F) → unfit value p x ≡ false → unfit Some p (whole value x) ≡ false
  fit p x h = not-of-true (p (whole value x)) (held p x h).1

  fit-limit : (p : ℕ → Bool) (o : Option F) → bad_optional value p o ≡ false → bad_optional Some p (option_map (whole value) o) ≡ false
  fit-limit p None h = refl
  fit-limit p (Some x) h = fit p x h

  fit-break : (b : Option (BreakOf F)) → bad_break value b ≡ false → bad_break Some (option_map (map_break (whole value)) b) ≡ false
  fit-break None h = refl
  fit-break (Some b) h =
      let R = break-in-range value b h in
      range-break Some (map_break (whole value) b)
      (record { earliest = fit is_number b.earliest R.earliest; latest = fit is_number b.latest R.latest; duration = fit is_number b.duration R.duration })

  fit-window : (w : Option (WindowOf F)) → bad_window value w ≡ false → bad_window Some (option_map (map_window (whole value)) w) ≡ false
  fit-window None h = refl
  fit-window (Some w) h =
      let R = window-in-range value w h in
      range-window Some (map_window (whole value) w) (record { ready = fit is_number w.ready R.ready; due = fit is_number w.due R.due })

  fit-customer : (c : CustomerOf F) → bad_customer value c ≡ false → bad_customer Some (map_customer (whole value) c) ≡ false
  fit-customer c h =
      let R = customer-in-range value c h in
      range-customer Some (map_customer (whole value) c)
      (record {
        demand = R.demand;
        service = fit is_number c.service R.service;
        window = fit-window c.window R.window;
        penalty = fit-limit is_penalty c.penalty R.penalty;
      })

  fit-depot : (cs : List (CustomerOf F)) → bad_depot value cs ≡ false → bad_depot Some (map (map_customer (whole value)) cs) ≡ false
  fit-depot [] h = refl
  fit-depot (c ∷ cs) h =
      let R = depot-in-range value c cs h in
      range-depot Some (map_customer (whole value) c) (map (map_customer (whole value)) cs)
      (record {
        demand = R.demand;
        service = fit (λ (n : ℕ). eqb n 0) c.service R.service;
        window = present-same (map_window (whole value)) c.window ∙ R.window;
        penalty = present-same (whole value) c.penalty ∙ R.penalty;
      })

  window_same : (w : Option (WindowOf F)) → window_falls Some (option_map (map_window (whole value)) w) ≡ window_falls value w
  window_same None = refl
  window_same (Some w) = refl

  break-same : (b : Option (BreakOf F)) → break_falls Some (option_map (map_break (whole value)) b) ≡ break_falls value b
  break-same None = refl
  break-same (Some b) = refl

  soft-same : (c : CustomerOf F) → soft (map_customer (whole value) c) ≡ soft c
  soft-same c = λ i. present-same (map_window (whole value)) c.window i && present-same (whole value) c.penalty i

  -- ---- closed legs

  disagree-same : (ds ts : List F) → disagree Some (map (whole value) ds) (map (whole value) ts) ≡ disagree value ds ts
  disagree-same [] ts = refl
  disagree-same (d ∷ ds) [] = refl
  disagree-same (d ∷ ds) (t ∷ ts) = ap (λ (b : Bool). closed_apart (whole value d) (whole value t) || b) (disagree-same ds ts)

  closures-same : (l : LegsOf F) → closures_differ Some (map_legs (whole value) l) ≡ closures_differ value l
  unfolding closures_differ
  closures-same l = disagree-same l.distances l.times

  pub closed_same : (l : LegsOf F) → any_closed Some (map_legs (whole value) l) ≡ any_closed value l
  unfolding any_closed
  closed_same l = any_same (whole value) (λ (x : F). is_closed (whole value x)) is_closed (λ x. refl) l.distances

  -- ---- a lent sheet

  module _ (s : SheetOf F) (l : s.head.places ≤ length s.customers) where
    counted : length (whole_sheet value s).customers ≡ s.head.places
    unfolding whole_sheet
    counted = length-map (records s) (map_customer (whole value)) ∙ length-take-le s.head.places s.customers l

    all-records : records (whole_sheet value s) ≡ map (map_customer (whole value)) (records s)
    unfolding whole_sheet
    all-records = take_all s.head.places (map (map_customer (whole value)) (records s)) (omega (arith, counted))

    whole_in_range : InRange value s → InRange Some (whole_sheet value s)
    unfolding whole_sheet
    whole_in_range R =
        record {
          places = R.places;
          capacity = R.capacity;
          fixed = fit is_number s.head.fixed R.fixed;
          max_distance = fit-limit is_number s.head.max_distance R.max_distance;
          max_duration = fit-limit is_number s.head.max_duration R.max_duration;
          rest = fit-break s.head.rest R.rest;
          depot = rw all-records (fit-depot (records s) R.depot);
          customers = rw all-records (any-imp (map_customer (whole value)) (bad_customer value) (bad_customer Some) fit-customer (records s) R.customers);
          distances = any-imp (whole value) (unfit value is_leg) (unfit Some is_leg) (fit is_leg) s.legs.distances R.distances;
          times = any-imp (whole value) (unfit value is_leg) (unfit Some is_leg) (fit is_leg) s.legs.times R.times;
        }

    whole-rises : PairsRise value s → PairsRise Some (whole_sheet value s)
    unfolding whole_sheet
    whole-rises P =
        record {
          rest = break-same s.head.rest ∙ P.rest;
          windows =
              rw all-records (any_same (map_customer (whole value)) (λ (c : CustomerOf F). window_falls value c.window) (λ (c : Customer). window_falls Some c.window) (λ c. window_same c.window)
              (records s) ∙ P.windows);
        }

    -- one that is neither short, odd, out of range nor falling, and closes the same legs in both tables, means one within the limits
    pub whole-within : tables_odd s ≡ false → bad_sheet value s ≡ false → pairs_fall value s ≡ false → closures_differ value s.legs ≡ false → Within (whole_sheet value s)
    unfolding whole_sheet
    whole-within t r p c =
        record {
          counted = counted;
          tables = rw (length-map s.legs.distances (whole value), length-map s.legs.times (whole value), empty-same (whole value) s.legs.times) t;
          ranged = range-in Some (whole_sheet value s) (whole_in_range (in-range value s r));
          paired = rise-pairs Some (whole_sheet value s) (whole-rises (pairs-rise value s p));
          closed-alike = closures-same s.legs ∙ c;
        }

  -- lateness pay is on the sheet as lent where it is on the sheet that is meant
  pub pay-same : (s : SheetOf F) → lateness_pay (whole_sheet value s) ≡ any_soft (records s)
  unfolding whole_sheet any_soft
  pay-same s = any_same (map_customer (whole value)) soft soft soft-same (records s)

  -- ---- a call that is accepted

  pub record Accepted (k : Call) (l : Lent F) : Type 0 where
    -- 13
    pub customers : l.sheet.head.places ≤ length l.sheet.customers
    pub results : AtLeast (k.needs (length l.tour) (length l.calls) (length l.ends)) l.rooms
    pub breaks : k.marks ≡ true → length l.ends ≤ length l.breaks
    -- 14, 1, 2 and 22
    pub ranged : InRange value l.sheet
    pub within : Within (whole_sheet value l.sheet)
    pub tour : WithinCalls (whole_sheet value l.sheet) l.tour
    pub calls : WithinCalls (whole_sheet value l.sheet) l.calls
    -- 21
    pub once : repeats l.tour ≡ false
    -- 5
    pub runs : RunsEven k l
    -- 4
    pub unpaid : k.improves ≡ true → lateness_pay (whole_sheet value l.sheet) ≡ false
    -- 23
    pub drivable : k.improves ≡ true → any_closed Some (whole_sheet value l.sheet).legs ≡ false

  pub accepted-within : (k : Call) (l : Lent F) → refusal_of value k l ≡ None → Accepted k l
  unfolding whole_sheet refusals
  accepted-within k l h =
      record {
        customers = enough;
        results = at_least (k.needs (length l.tour) (length l.calls) (length l.ends)) l.rooms L.results;
        breaks = λ m. ltb-false (length l.breaks) (length l.ends) (rw m at L.breaks);
        ranged = in-range value l.sheet R.sheet;
        within = whole-within l.sheet enough (N 14) R.sheet (N 2) (N 22);
        tour = R.tour;
        calls = R.run-list;
        once = N 21;
        runs = runs-even k l (N 5);
        unpaid = λ m. pay-same l.sheet ∙ (rw m at (N 4));
        drivable = λ m. closed_same l.sheet.legs ∙ (rw m at (N 23));
      }
    where
      -- each by its number
      N : (n : ℕ) → fits_by value n k l ≡ false
      N = not-refused value k l h

      L : LongEnough k l
      L = long-enough k l (N 13)

      R : LentInRange value l
      R = lent-in-range value l (N 1)

      enough : l.sheet.head.places ≤ length l.sheet.customers
      enough = ltb-false (length l.sheet.customers) l.sheet.head.places L.customers

  -- an accepted tour has at most 63 calls
  pub accepted-few : (k : Call) (l : Lent F) → Accepted k l → length l.tour ≤ 63
  unfolding whole_sheet
  accepted-few k l A =
      let n = l.sheet.head.places in
      tour-few n l.tour (not-false (is_places n) A.ranged.places)
      (fails-not (is_call n) l.tour (any-fails (λ (c : ℕ). not (is_call n c)) l.tour (calls-in-range n l.tour A.tour).each)) A.once

  -- ---- and a call that keeps all this is accepted

  module _ (k : Call) (l : Lent F) (A : Accepted k l) where
    not_short : too_short k l ≡ false
    not_short =
        rw (
          le-ltb (length l.sheet.customers) l.sheet.head.places A.customers,
          none-short (k.needs (length l.tour) (length l.calls) (length l.ends)) l.rooms A.results,
          only-where k.marks (ltb (length l.breaks) (length l.ends)) (λ m. le-ltb (length l.breaks) (length l.ends) (A.breaks m)),
        )

    not-odd : tables_odd l.sheet ≡ false
    unfolding whole_sheet
    not-odd = rw (length-map l.sheet.legs.distances (whole value), length-map l.sheet.legs.times (whole value), empty-same (whole value) l.sheet.legs.times) at A.within.tables

    not-falling : pairs_fall value l.sheet ≡ false
    unfolding whole_sheet
    not-falling =
        let P = pairs-rise Some (whole_sheet value l.sheet) A.within.paired in
        rise-pairs value l.sheet
        (record {
          rest = sym (break-same l.sheet.head.rest) ∙ P.rest;
          windows =
              sym (any_same (map_customer (whole value)) (λ (c : CustomerOf F). window_falls value c.window) (λ (c : Customer). window_falls Some c.window) (λ c. window_same c.window)
              (records l.sheet))
              ∙ (rw (all-records l.sheet A.customers) at P.windows);
        })

    pub accepted-none : refusal_of value k l ≡ None
    unfolding whole_sheet refusal_of refusals
    accepted-none =
        fits-none (refusals value k l)
        (not_short
        also not-odd
        also range-lent value l (record { sheet = range-in value l.sheet A.ranged; tour = A.tour; run-list = A.calls })
        also A.once
        also not-falling
        also sym (closures-same l.sheet.legs) ∙ A.within.closed-alike
        also even-runs k l A.runs
        also only-where k.improves (any_soft (records l.sheet)) (λ m. sym (pay-same l.sheet) ∙ A.unpaid m)
        also only-where k.improves (any_closed value l.sheet.legs) (λ m. sym (closed_same l.sheet.legs) ∙ A.drivable m)
        also tt)

  -- accepted is all else
  pub accepted-exactly : (k : Call) (l : Lent F) → (refusal_of value k l ≡ None) ↔ Accepted k l
  accepted-exactly k l = (accepted-within k l, accepted-none k l)
