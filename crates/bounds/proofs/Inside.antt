-- On a sheet within the limits each number is at most what the Domain allows (`sized`), and each lookup of a run lies inside its table. Assumes nothing.
use Prim.Native.Nat.{ℕ, ◌+◌, ◌-◌, ◌*◌, ◌≤◌, ◌<◌}
use native.Mathlib.Omega.{arith}
use native.Mathlib.Nat.{mul-le-mul_right, zero-add}
use mathlib.Core.Path.{◌≡◌, refl, sym, ap, subst, ◌∙◌}
use mathlib.Core.Bool.{Bool, true, false, cond, not, ◌||◌, or-false}
use mathlib.Core.List.{List, [], ◌∷◌}
use Rattle.std.specs.Prelude.{Option, None, Some}
use lib.ListN.{length, get_or, take}
use lib.Seq.{take-length}
use lib.Dec.{leb, ltb, eqb}
use borrow.Author.Tests.{leb-true, ltb-true, ltb-false, lt-ltb, eqb-true}
use Rattle.basics.proofs.TestLaws.{by-test, or_left, or_right, not-false, and_left, and_right}
use Rattle.basics.specs.Options.{Holds}
use Rattle.basics.specs.Lists.{is_empty, any, sum, All, Same}
use Rattle.basics.proofs.ListLaws.{all-imp, all_get_d, any-fails, fails-not}
use Rattle.definitions.specs.Domain.{is_places, is_demand, is_capacity, is_number, is_closed, is_leg, is_call, most_calls, most_number, most_demand, most_capacity, most_penalty}
use Rattle.definitions.specs.Load.{each_of}
use Rattle.definitions.specs.Sheet.{Window, Break, Customer, Sheet, Leg, records, depot, customer, road, distance, time_table, time, drive}
use Rattle.definitions.specs.Run.{last_of, break_at}
use Rattle.definitions.specs.Drop.{calls_at}
use Rattle.definitions.proofs.LoadLaws.{tested-most}
use Rattle.definitions.specs.Refusals.{unfit, bad_optional, bad_break, bad_window, bad_customer, Within, WithinCalls, repeats}
use Rattle.theorems.proofs.Ranges.{in-range, tables-even, break-in-range, window-in-range, customer-in-range}
use Rattle.theorems.proofs.Repeats.{tour-few}
use Rattle.theorems.proofs.Roads.{drive-has}
use Rattle.bounds.specs.Sized.{Small, LegNumber, SmallWindow, SmallBreak, SmallCustomer, times_of, Sized, Place}

-- ---- the facts of `Sized` follow from the tests

kept : (n m : ℕ) → not (leb n m) ≡ false → n ≤ m
kept n m e = leb-true n m (not-false (leb n m) e)

limit-kept : (m : ℕ) (o : Option ℕ) → bad_optional Some (λ (n : ℕ). leb n m) o ≡ false → Holds (λ (n : ℕ). n ≤ m) o
limit-kept m None e = tt
limit-kept m (Some n) e = kept n m e

break-kept : (o : Option Break) → bad_break Some o ≡ false → Holds SmallBreak o
break-kept None e = tt
break-kept (Some b) e =
    let R = break-in-range Some b e in
    record {
      earliest-small = kept b.earliest most_number R.earliest;
      latest-small = kept b.latest most_number R.latest;
      duration-small = kept b.duration most_number R.duration;
    }

window-kept : (o : Option Window) → bad_window Some o ≡ false → Holds SmallWindow o
window-kept None e = tt
window-kept (Some w) e = let R = window-in-range Some w e in record { ready-small = kept w.ready most_number R.ready; due-small = kept w.due most_number R.due }

customer-kept : (c : Customer) → bad_customer Some c ≡ false → SmallCustomer c
customer-kept c e =
    let R = customer-in-range Some c e in
    record {
      demand-small = tested-most most_demand c.demand (not-false (each_of is_demand c.demand) R.demand);
      service-small = kept c.service most_number R.service;
      window-small = window-kept c.window R.window;
      penalty-small = limit-kept most_penalty c.penalty R.penalty;
    }

legs-kept : (l : List ℕ) → any (unfit Some is_leg) l ≡ false → All LegNumber l
legs-kept l e = all-imp (λ (n : ℕ). unfit Some is_leg n ≡ false) LegNumber (λ n h. not-false (is_leg n) h) l (any-fails (unfit Some is_leg) l e)

records-kept : (s : Sheet) → length s.customers ≡ s.head.places → any (bad_customer Some) (records s) ≡ false → All SmallCustomer s.customers
records-kept s z e =
    subst (All SmallCustomer) (ap (λ (n : ℕ). take n s.customers) (sym z) ∙ take-length s.customers)
    (all-imp (λ (c : Customer). bad_customer Some c ≡ false) SmallCustomer customer-kept (records s) (any-fails (bad_customer Some) (records s) e))

times_long : (full : ℕ) (distances times : List ℕ) → length distances ≡ full → is_empty times || eqb (length times) full ≡ true → length (time_table distances times) ≡ full
times_long full distances [] z e = z
times_long full distances (t ∷ ts) z e = eqb-true (length (t ∷ ts)) full e

times-kept : (distances times : List ℕ) → All LegNumber distances → All LegNumber times → All LegNumber (time_table distances times)
times-kept distances [] a b = a
times-kept distances (t ∷ ts) a b = b

pub sized : (s : Sheet) → Within s → Sized s
sized s W =
    let R = in-range Some s W.ranged in
    let T = tables-even s W.tables in
    let full = s.head.places * s.head.places in
    let places = not-false (is_places s.head.places) R.places in
    let square = eqb-true (length s.legs.distances) full (not-false _ T.distances) in
    record {
      some-place = leb-true 1 s.head.places (and_left (leb 1 s.head.places) _ places);
      few-places = leb-true s.head.places 64 (and_right (leb 1 s.head.places) _ places);
      capacity-small = tested-most most_capacity s.head.capacity (not-false (each_of is_capacity s.head.capacity) R.capacity);
      fixed-small = kept s.head.fixed most_number R.fixed;
      far-small = limit-kept most_number s.head.max_distance R.max_distance;
      long-small = limit-kept most_number s.head.max_duration R.max_duration;
      rest-small = break-kept s.head.rest R.rest;
      records-all = W.counted;
      records-small = records-kept s W.counted R.customers;
      distances-all = square;
      distances-legs = legs-kept s.legs.distances R.distances;
      times-all = times_long full s.legs.distances s.legs.times square (not-false _ T.times);
      times-legs = times-kept s.legs.distances s.legs.times (legs-kept s.legs.distances R.distances) (legs-kept s.legs.times R.times);
    }

-- a length is small
road-small : (n : ℕ) → LegNumber n → Holds Small (road n)
road-small n h = by-test (is_closed n) (λ t. rw t tt) (λ f. rw f (leb-true n most_number (sym (or-false (is_number n)) ∙ subst (λ (b : Bool). is_number n || b ≡ true) f h)))

-- ---- inside the tables

-- the leg from a to b stands in a table of n rows, however its numbers are held
pub leg-inside : {F : Type 0} (table : List F) (n a b : ℕ) → length table ≡ n * n → a < n → b < n → a * n + b < length table
leg-inside table n a b z p q = omega (arith, mul-le-mul_right n p)

zero_right : (m n : ℕ) → m + n ≡ 0 → n ≡ 0
zero_right m n h = omega arith

not-one : (n : ℕ) → 1 + n ≡ 0 → ⊥
not-one n h = omega arith

module _ (s : Sheet) where
  -- the calls of a tour or a run list are few, and each is a customer
  pub few-calls : (calls : List ℕ) → WithinCalls s calls → length calls ≤ most_calls
  few-calls calls e = ltb-false most_calls (length calls) (or_left (ltb most_calls (length calls)) _ e)

  are-calls : (calls : List ℕ) → WithinCalls s calls → All (λ (c : ℕ). is_call s.head.places c ≡ true) calls
  are-calls calls e =
      fails-not (is_call s.head.places) calls
      (any-fails (λ (c : ℕ). not (is_call s.head.places c)) calls (or_right (ltb most_calls (length calls)) _ e))

  -- those of a tour are fewer, since it has each customer at most once
  pub few-tour : Within s → (tour : List ℕ) → WithinCalls s tour → repeats tour ≡ false → length tour ≤ 63
  few-tour W tour e o =
      tour-few s.head.places tour (not-false (is_places s.head.places) (in-range Some s W.ranged).places) (are-calls tour e) o

  pub calls-inside : (calls : List ℕ) → WithinCalls s calls → All (Place s) calls
  calls-inside calls e =
      all-imp (λ (c : ℕ). is_call s.head.places c ≡ true) (Place s) (λ c h. ltb-true c s.head.places (and_right (leb 1 c) _ h)) calls (are-calls calls e)

  -- the last place before the return
  pub last-inside : (a : ℕ) (calls : List ℕ) → Place s a → All (Place s) calls → Place s (last_of a calls)
  last-inside a [] h i = h
  last-inside a (c ∷ cs) h i = last-inside c cs i.0 i.1

  -- the same calls in another order, as an improver makes them
  pub same-inside : (xs ys : List ℕ) → Same xs ys → All (Place s) xs → All (Place s) ys
  same-inside xs ys e a = within_of ys (sym (e outside) ∙ of-within xs a)
    where
      outside : ℕ → ℕ
      outside c = cond (ltb c s.head.places) 0 1

      of-within : (l : List ℕ) → All (Place s) l → sum outside l ≡ 0
      of-within [] a = refl
      of-within (c ∷ l) a = rw (lt-ltb c s.head.places a.0) (zero-add (sum outside l) ∙ of-within l a.1)

      within_of : (l : List ℕ) → sum outside l ≡ 0 → All (Place s) l
      within_of [] h = tt
      within_of (c ∷ l) h =
          by-test (ltb c s.head.places) (λ t. (ltb-true c s.head.places t, within_of l (zero_right (outside c) (sum outside l) h)))
          (λ f. absurd (not-one (sum outside l) (rw f at h)))

  module _ (S : Sized s) where
    pub depot-inside : Place s 0
    depot-inside = S.some-place

    pub distance-inside : (a b : ℕ) → Place s a → Place s b → a * s.head.places + b < length s.legs.distances
    distance-inside a b p q = leg-inside s.legs.distances s.head.places a b S.distances-all p q

    pub time-inside : (a b : ℕ) → Place s a → Place s b → a * s.head.places + b < length (times_of s)
    time-inside a b p q = leg-inside (times_of s) s.head.places a b S.times-all p q

    -- a customer's record is one of the sheet's
    pub record-inside : (c : ℕ) → Place s c → c < length s.customers
    record-inside c h = omega (arith, S.records-all)

    -- a call by its number, and calls by their positions; what is beyond the tour is the depot
    pub call-inside : (calls : List ℕ) (i : ℕ) → All (Place s) calls → Place s (get_or calls i 0)
    call-inside calls i a = all_get_d (Place s) calls i 0 a depot-inside

    pub held-inside : (tour held : List ℕ) → All (Place s) tour → All (Place s) (calls_at tour held)
    held-inside tour [] a = tt
    held-inside tour (p ∷ held) a = (call-inside tour (p - 1) a, held-inside tour held a)

    -- ---- each number that is looked up is small, outside the tables too

    pub distance-small : (a b : ℕ) → Holds Small (distance s a b)
    distance-small a b = road-small (get_or s.legs.distances (a * s.head.places + b) 0) (all_get_d LegNumber s.legs.distances (a * s.head.places + b) 0 S.distances-legs refl)

    pub time-small : (a b : ℕ) → Holds Small (time s a b)
    time-small a b = road-small (get_or (times_of s) (a * s.head.places + b) 0) (all_get_d LegNumber (times_of s) (a * s.head.places + b) 0 S.times-legs refl)

    -- so is a leg that can be driven, in both
    pub leg-small : (a b : ℕ) (l : Leg) → drive s a b ≡ Some l → Small l.length × Small l.travel
    leg-small a b l e =
        let x = drive-has s a b l e in
        (subst (Holds Small) x.0 (distance-small a b), subst (Holds Small) x.1 (time-small a b))

    pub customer-small : (c : ℕ) → SmallCustomer (customer s c)
    customer-small c =
        all_get_d SmallCustomer s.customers c depot S.records-small
        (record { demand-small = omega arith; service-small = omega arith; window-small = tt; penalty-small = tt })

    -- the break at a call, if it is there
    pub break-small : (place k : ℕ) → Holds SmallBreak (break_at s place k)
    break-small place k = by-test (eqb place k) (λ t. rw t S.rest-small) (λ f. rw f tt)
