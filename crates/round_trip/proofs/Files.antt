-- Reading files of bytes: a sheet's own file gives it back, and no other file is accepted.
use Prim.Native.Nat.{ℕ, ◌*◌, ◌≤◌, ◌<◌}
use native.Mathlib.Omega.{arith}
use native.Mathlib.Nat.{mul-le-mul}
use mathlib.Core.Path.{◌≡◌, sym, ap, subst, ◌∙◌}
use mathlib.Core.Bool.{Bool, true, false, ◌||◌}
use mathlib.Core.List.{List, [], ◌∷◌, ◌++◌, map, tail}
use Rattle.std.specs.Prelude.{Option, None, Some}
use mathlib.Core.Logic.{inl, inr}
use lib.ListN.{length, length-append}
use lib.Dec.{leb, ltb}
use borrow.Author.Tests.{leb-true, ltb-true, eqb-true}
use Rattle.basics.proofs.TestLaws.{by-test, both, and_right}
use Rattle.basics.specs.Options.{Holds, IfAny}
use Rattle.basics.specs.Lists.{All, Passes}
use Rattle.basics.proofs.ListLaws.{all_append, all-imp, all_map}
use Rattle.definitions.specs.Domain.{is_demand, is_capacity, is_penalty, is_number, no_road, is_closed, is_leg, is_call}
use Rattle.definitions.specs.Sheet.{Window, Break, Customer, Sheet}
use Rattle.definitions.specs.Words.{Word, word, words_of, left_over, bytes_of}
use Rattle.definitions.specs.Encoding.{optional, is_said, second_words, break_words, window_words, customer_words, body_words, encode}
use Rattle.definitions.specs.Reader.{read, sheet}
use Rattle.definitions.specs.Refusals.{Within, WithinCalls, repeats}
use Rattle.theorems.proofs.Repeats.{tour-few}
use Rattle.round_trip.proofs.Says.{second, second_is, second-any, call_words, time_words, table_words, from_customers, from_limits, all_words, others}
use Rattle.round_trip.proofs.Good.{GoodWindow, GoodBreak, GoodCustomer, AsMany, GoodSheet, GoodTour, good-sheet, good-tour}
use Rattle.round_trip.proofs.Accepts.{word_count}
use Rattle.round_trip.proofs.ReadsBack.{body-length, encode-counted, reads-back}
use Rattle.round_trip.proofs.OnlySheets.{only-sheets}
use Rattle.round_trip.proofs.Bytes.{Fits, AllFit, AllBytes, words-of-bytes, nothing_left, bytes-of-words}

-- ---- the words of a sheet have 32 bits

-- a test that only numbers below 2^28 pass
abbrev Small : (ℕ → Bool) → Type 0
Small p = (v : ℕ) → p v ≡ true → v < 0x10000000

small : (m : ℕ) → m < 0x10000000 → Small (λ (v : ℕ). leb v m)
small m h v e = omega (arith, leb-true v m e)

numbers : Small is_number
numbers = small 10000000 (omega arith)

legs : Small is_leg
legs v e = by-test (is_number v) (λ t. numbers v t) (λ f. let c = eqb-true v no_road (subst (λ (b : Bool). b || is_closed v ≡ true) f e) in omega arith)

fit : (k : ℕ) (p : ℕ → Bool) → k < 16 → Small p → (v : ℕ) → p v ≡ true → Fits (word k v)
fit k p h s v e = record { kind = h; value = s v e }

-- a word of kind k that holds a number
fit-number : (k : ℕ) → k < 16 → (v : ℕ) → is_number v ≡ true → Fits (word k v)
fit-number k h = fit k is_number h numbers

fit_row : (k : ℕ) (p : ℕ → Bool) (vs : List ℕ) → k < 16 → Small p → Passes p vs → AllFit (map (word k) vs)
fit_row k p vs h s a = all_map Fits (word k) vs (all-imp (λ (v : ℕ). p v ≡ true) (λ (v : ℕ). Fits (word k v)) (fit k p h s) vs a)

fit-optional : (k : ℕ) (p : ℕ → Bool) (o : Option ℕ) → k < 16 → Small p → IfAny p o → AllFit (optional k o)
fit-optional k p None h s g = tt
fit-optional k p (Some v) h s g = (fit k p h s v g, tt)

fit-break : (b : Option Break) → Holds GoodBreak b → AllFit (break_words b)
fit-break None G = tt
fit-break (Some b) G =
    let six = fit-number 6 (omega arith) in
    (six b.earliest G.earliest, (six b.latest G.latest, (six b.duration G.duration, tt)))

fit-window : (w : Option Window) → Holds GoodWindow w → AllFit (window_words w)
fit-window None G = tt
fit-window (Some w) G = (fit-number 9 (omega arith) w.ready G.ready, (fit-number 0xA (omega arith) w.due G.due, tt))

-- a second capacity or demand
fit-second : (p : ℕ → Bool) (b : Bool) (n : ℕ) → Small p → p n ≡ true → AllFit (second_words b n)
fit-second p b n s h = rw (second_is b n) (fit-optional 0 p (second b n) (omega arith) s (second-any p b n h))

fit-customers : (said : List Bool) (cs : List Customer) → All GoodCustomer cs → AllFit (customer_words said cs)
fit-customers said [] g = tt
fit-customers said (c ∷ cs) g = (
  fit 7 is_demand (omega arith) demands c.demand.seats demand.0,
  all_append Fits (seconds ++ serviced ++ penalised) (customer_words (tail said) cs)
      (all_append Fits (seconds ++ serviced) penalised
      (all_append Fits seconds serviced (fit-second is_demand (is_said said) c.demand.wheelchairs demands demand.1)
      (fit-number 8 (omega arith) c.service g.0.service, fit-window c.window g.0.window))
      (fit-optional 0xB is_penalty c.penalty (omega arith) (small 1000 (omega arith)) g.0.penalty))
      (fit-customers (tail said) cs g.1),
)
  where
    demands : Small is_demand
    demands = small 32767 (omega arith)

    demand : (is_demand c.demand.seats ≡ true) × (is_demand c.demand.wheelchairs ≡ true)
    demand = both (is_demand c.demand.seats) (is_demand c.demand.wheelchairs) g.0.demand

    seconds : List Word
    seconds = second_words (is_said said) c.demand.wheelchairs

    serviced : List Word
    serviced = word 8 c.service ∷ window_words c.window

    penalised : List Word
    penalised = optional 0xB c.penalty

-- ---- how many there are

few-optional : (k : ℕ) (o : Option ℕ) → length (optional k o) ≤ 1
few-optional k None = omega arith
few-optional k (Some v) = omega arith

few-window : (w : Option Window) → length (window_words w) ≤ 2
few-window None = omega arith
few-window (Some w) = omega arith

few-break : (b : Option Break) → length (break_words b) ≤ 3
few-break None = omega arith
few-break (Some b) = omega arith

few-second : (b : Bool) (n : ℕ) → length (second_words b n) ≤ 1
few-second b n = rw (second_is b n) (few-optional 0 (second b n))

few-customers : (said : List Bool) (cs : List Customer) → length (customer_words said cs) ≤ 6 * length cs
few-customers said [] = omega arith
few-customers said (c ∷ cs) =
    simp length-append
    (omega (
      arith,
      few-customers (tail said) cs,
      few-second (is_said said) c.demand.wheelchairs,
      few-window c.window,
      few-optional 0xB c.penalty,
    ))

module _ (said : List Bool) (s : Sheet) (tour : List ℕ) (G : GoodSheet s) (C : GoodTour s.head.places tour) where
  few-places : s.head.places ≤ 64
  few-places = leb-true s.head.places 64 (and_right (leb 1 s.head.places) (leb s.head.places 64) G.places)

  few-legs : s.head.places * s.head.places ≤ 64 * 64
  few-legs = mul-le-mul few-places few-places

  few-times : AsMany (s.head.places * s.head.places) s.legs.times → length s.legs.times ≤ 4096
  few-times (inl e) = omega (arith, ap length e)
  few-times (inr e) = omega (arith, e, few-legs)

  -- with F at most 8,643
  pub few_words : length (body_words said s tour) ≤ 8642
  few_words =
      omega (
        arith,
        body-length said s tour,
        few-second (is_said said) s.head.capacity.wheelchairs,
        few-optional 4 s.head.max_distance,
        few-optional 5 s.head.max_duration,
        few-break s.head.rest,
        few-customers (tail said) (others s),
        G.counted,
        ap length G.first,
        few-places,
        G.square,
        few-legs,
        few-times G.as_many,
        tour-few s.head.places tour G.places C.each C.once,
      )

  fit_all : AllFit (all_words said s tour (word_count said s tour))
  fit_all = (
    record { kind = omega arith; value = omega (arith, few-places) },
    (
      fit 2 is_capacity (omega arith) capacities s.head.capacity.seats capacity.0,
      all_append Fits (second_words (is_said said) s.head.capacity.wheelchairs) (word 3 s.head.fixed ∷ from_limits said s tour f)
          (fit-second is_capacity (is_said said) s.head.capacity.wheelchairs capacities capacity.1) (fit-number 3 (omega arith) s.head.fixed G.fixed, limited),
    ),
  )
    where
      f : ℕ
      f = word_count said s tour

      capacities : Small is_capacity
      capacities = small 1000000 (omega arith)

      capacity : (is_capacity s.head.capacity.seats ≡ true) × (is_capacity s.head.capacity.wheelchairs ≡ true)
      capacity = both (is_capacity s.head.capacity.seats) (is_capacity s.head.capacity.wheelchairs) G.capacity

      small-call : Small (is_call s.head.places)
      small-call v e = omega (arith, ltb-true v s.head.places (and_right (leb 1 v) (ltb v s.head.places) e), few-places)

      called : AllFit (call_words tour f)
      called =
          all_append Fits (map (word 0xE) tour) (word 0xF f ∷ []) (fit_row 0xE (is_call s.head.places) tour (omega arith) small-call C.each)
          (record { kind = omega arith; value = omega (arith, few_words, body-length said s tour) }, tt)

      timed : AllFit (time_words s.legs.times tour f)
      timed = all_append Fits (map (word 0xD) s.legs.times) (call_words tour f) (fit_row 0xD is_leg s.legs.times (omega arith) legs G.times) called

      tabled : AllFit (table_words s.legs.distances s.legs.times tour f)
      tabled = all_append Fits (map (word 0xC) s.legs.distances) (time_words s.legs.times tour f) (fit_row 0xC is_leg s.legs.distances (omega arith) legs G.distances) timed

      rest : List Word
      rest = from_customers said s tour f

      from-customers : AllFit rest
      from-customers =
          all_append Fits (customer_words (tail said) (others s)) (table_words s.legs.distances s.legs.times tour f) (fit-customers (tail said) (others s) G.customers) tabled

      from-break : AllFit (break_words s.head.rest ++ rest)
      from-break = all_append Fits (break_words s.head.rest) rest (fit-break s.head.rest G.rest) from-customers

      limited : AllFit (from_limits said s tour f)
      limited =
          all_append Fits (optional 4 s.head.max_distance) (optional 5 s.head.max_duration ++ (break_words s.head.rest ++ rest))
          (fit-optional 4 is_number s.head.max_distance (omega arith) numbers G.max_distance)
          (all_append Fits (optional 5 s.head.max_duration) (break_words s.head.rest ++ rest) (fit-optional 5 is_number s.head.max_duration (omega arith) numbers G.max_duration) from-break)

pub encode-fits : (said : List Bool) (s : Sheet) (tour : List ℕ) → Within s → WithinCalls s tour → repeats tour ≡ false → AllFit (encode said s tour)
encode-fits said s tour W C o = rw (encode-counted said s tour) (fit_all said s tour (good-sheet s W) (good-tour s.head.places tour C o))

-- ---- files

-- for every sheet within the limits and tour of it without a repeat, reading their file gives them back, whichever zeros are said
pub file-reads-back : (said : List Bool) (s : Sheet) (tour : List ℕ) → Within s → WithinCalls s tour → repeats tour ≡ false → read (bytes_of (encode said s tour)) ≡ sheet s tour
unfolding read
file-reads-back said s tour W C o =
    rw (words-of-bytes (encode said s tour) (encode-fits said s tour W C o), nothing_left (encode said s tour)) (reads-back said s tour W C o)

pub record IsFile (bs : List ℕ) (s : Sheet) (tour : List ℕ) : Type 0 where
  -- which second capacity and demands that are 0 have a word
  pub said : List Bool
  pub bytes : bs ≡ bytes_of (encode said s tour)
  pub within : Within s
  pub calls : WithinCalls s tour
  pub once : repeats tour ≡ false

-- a file that is accepted is the file of the sheet and tour returned, which are within the limits
pub only-files : (bs : List ℕ) (s : Sheet) (tour : List ℕ) → AllBytes bs → read bs ≡ sheet s tour → IsFile bs s tour
unfolding read
only-files bs s tour a e =
    let I = only-sheets (words_of bs) (left_over bs) s tour e in
    record { said = I.said; bytes = sym (bytes-of-words bs a I.nothing_left) ∙ ap bytes_of I.words; within = I.within; calls = I.calls; once = I.once }
