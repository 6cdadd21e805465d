-- The answer of the reader and what it writes: refused with nothing written, or the parts of the sheet that is read. Assumes nothing.
use Prim.Native.Nat.{ℕ, zero, suc, zero-le, ◌≤◌, min}
use native.Mathlib.Omega.{arith}
use mathlib.Core.Path.{◌≡◌, refl, sym, ap, ap₂, ◌∙◌}
use mathlib.Core.Bool.{true, false}
use mathlib.Core.List.{List, [], ◌∷◌, map}
use lib.ListN.{length, take, drop, length-map, length-take}
use lib.Seq.{take_at}
use lib.Ieee.{Float}
use Rattle.basics.proofs.TestLaws.{by-test}
use Rattle.definitions.specs.Sheet as Whole
use Rattle.definitions.specs.Sheet.{CustomerOf}
use Rattle.definitions.specs.Words.{words_of}
use Rattle.definitions.specs.Reader as Reader
use Rattle.definitions.specs.Reader.{sheet, refused_at, read, reader_needs, read_into, sheet_of, tour_of}
use Rattle.definitions.specs.Room.{short, written}
use Rattle.definitions.specs.Answers.{read_customers, read_distances, read_times, read_tour}
use Rattle.theorems.proofs.Accepted.{at_least}
use Rattle.whole.specs.Whole.{fl}
use Rattle.models.specs.Records.{opening_of, customer_of, rest_of, head_of}
use Rattle.models.specs.Image.{fl_customer, fl_sheet}
use Rattle.models.specs.declared.customer.TimeWindow.{TimeWindow}
use Rattle.std.specs.Prelude.{Option, None, Some}
use Rattle.models.specs.declared.customer.Customer.{Customer}
use Rattle.models.specs.declared.vehicle.VehicleBreak.{VehicleBreak}
use Rattle.models.specs.declared.head.Head.{Head}
use Rattle.lending.proofs.Lists.{written-room}
use Rattle.sheet_read.specs.Fitting.{fitting}
use Rattle.sheet_read.specs.Parts.{floats_of, depots}
use Rattle.sheet_read.specs.Summary.{holds, refused, Counted, summary_of, held_counts, held_summary}
use Rattle.sheet_read.specs.declared.read.Contents.{Contents}
use Rattle.sheet_read.specs.declared.read.Reading.{Reading}
use Rattle.sheet_read.specs.declared.read.Reading.TheVariants as Readings
use Rattle.sheet_read.proofs.Accepted.{distances-whole, times-whole, tour-whole, customers-whole}
use Rattle.call_reader.specs.declared.reading.Read.TheVariants.{Refused, Sheet}
use Rattle.call_reader.specs.Reading.{opening_in, penalty_in, customer_in, limit_in, rest_in, head_in, read_in, records_in, rooms_of, Reads}

-- ---- the code's records hold what they are made of

opening-in : (x : (Option TimeWindow)) → opening_in (opening_of x) ≡ x
opening-in None = refl
opening-in (Some w) = refl

penalty-in : (x : (Option Float)) → penalty_in x ≡ x
penalty-in None = refl
penalty-in (Some p) = refl

customer-in : (c : Customer) → customer_in (customer_of c) ≡ c
customer-in c =
    λ i.
    record {
      demand = c.demand;
      service_duration = c.service_duration;
      time_window = opening-in c.time_window i;
      lateness_penalty = penalty-in c.lateness_penalty i;
    }

limit-in : (x : (Option Float)) → limit_in x ≡ x
limit-in None = refl
limit-in (Some max) = refl

rest_in_lem : (x : (Option VehicleBreak)) → rest_in (rest_of x) ≡ x
rest_in_lem None = refl
rest_in_lem (Some b) = refl

head_in_lem : (h : Head) → head_in (head_of h) ≡ h
head_in_lem h =
    λ i.
    record {
      places = h.places;
      capacity = h.capacity;
      fixed_cost = h.fixed_cost;
      limits =
          record {
            max_distance = limit-in h.limits.max_distance i;
            max_duration = limit-in h.limits.max_duration i;
            rest = rest_in_lem h.limits.rest i;
          };
    }

-- the first records, from what they hold
first-in : (n : ℕ) (xs : List Customer) → map customer_in (take n (map customer_of xs)) ≡ take n xs
first-in zero xs = refl
first-in (suc n) [] = refl
first-in (suc n) (x ∷ xs) = ap₂ (λ (y : Customer) (ys : List Customer). y ∷ ys) (customer-in x) (first-in n xs)

-- ---- what the code's reading says

said-refused : (o : Reader.Reading) (n i : ℕ) → refused n i ≡ summary_of o → o ≡ refused_at n i
said-refused (refused_at m j) n i e = cc
said-refused (sheet s tour) n i e = let z : ◌≡◌ {A = ℕ} 0 1 = cc in absurd (omega arith)

-- the code's contents hold what they are made of
abbrev contents_in : Counted → Contents
contents_in x = record { head = head_in x.head; customers = x.customers; distances = x.distances; times = x.times; calls = x.calls }

contents-in : (c : Contents) → contents_in (held_counts c) ≡ c
contents-in c = ap (λ (h : Head). record { head = h; customers = c.customers; distances = c.distances; times = c.times; calls = c.calls }) (head_in_lem c.head)

-- the sheet and the tour that are read
said-sheet : (o : Reader.Reading) (c : Contents) → holds (held_counts c) ≡ summary_of o → (s : Whole.Sheet) × (tour : List ℕ) × (o ≡ sheet s tour) × (Sheet c ≡ read_in o)
said-sheet (refused_at m j) c e = let z : ◌≡◌ {A = ℕ} 0 1 = cc in absurd (omega arith)
said-sheet (sheet s tour) c e = let same : held_counts c ≡ counted s tour = cc in (s, tour, refl, ap Sheet (sym (contents-in c) ∙ ap contents_in same))
  where
    counted : Whole.Sheet → List ℕ → Counted
    counted s tour =
        record {
          head = (fl_sheet s).head;
          customers = length s.customers;
          distances = length s.legs.distances;
          times = length s.legs.times;
          calls = length tour;
        }

-- ---- the answer

module _ (bytes : List ℕ) (room : ℕ) (distances times : List Float) (tour : List ℕ) where
  abbrev rooms : List ℕ
  rooms = rooms_of room distances times tour

  abbrev into : Reader.Reading
  into = read_into rooms bytes

  pub short-reads : short reader_needs rooms ≡ true → Reads into distances times tour (Refused 13 0) distances times tour
  unfolding read_into
  short-reads h = rw h (record { answer = refl; distances-left = refl; times-left = refl; tour-left = refl })

  module _ (h : short reader_needs rooms ≡ false) (x : Reading) (told : held_summary x ≡ summary_of (read bytes)) where
    pub refused-reads : (n i : ℕ) → x ≡ Readings.Refused n i → Reads into distances times tour (Refused n i) distances times tour
    unfolding read_into
    refused-reads n i e =
        rw (h, said-refused (read bytes) n i (sym (ap held_summary e) ∙ told))
        (record { answer = refl; distances-left = refl; times-left = refl; tour-left = refl })

    pub sheet-reads : (c : Contents) → x ≡ Readings.Sheet c → {distances' times' : List Float} {tour' : List ℕ}
        → distances' ≡ written (fitting (floats_of 0xC bytes) distances) distances
        → times' ≡ written (fitting (floats_of 0xD bytes) times) times
        → tour' ≡ written (fitting (tour_of (words_of bytes)) tour) tour
        → Reads into distances times tour (Sheet c) distances' times' tour'
    unfolding read_into
    sheet-reads c e d t l =
        let S = said-sheet (read bytes) c (sym (ap held_summary e) ∙ told) in
        let long = at_least reader_needs rooms h in
        let is = sym S.2 in
        let d' = distances-whole bytes S.0 S.1 S.2 distances long.1.0 ∙ ap (λ (o : Reader.Reading). map fl (read_distances o)) is in
        let t' = times-whole bytes S.0 S.1 S.2 times long.1.1.0 ∙ ap (λ (o : Reader.Reading). map fl (read_times o)) is in
        let l' = tour-whole bytes S.0 S.1 S.2 tour (omega (arith, long.1.1.1.0)) ∙ ap read_tour is in
        rw h
        (record {
          answer = S.3;
          distances-left = d ∙ ap (λ (w : List Float). written w distances) d';
          times-left = t ∙ ap (λ (w : List Float). written w times) t';
          tour-left = l ∙ ap (λ (w : List ℕ). written w tour) l';
        })

-- ---- the records

-- these are the records that the code reads from the bytes
abbrev AllOf : List ℕ → List Customer → Type 0
AllOf bytes all = map customer_of all ≡ written (fitting (map fl_customer (sheet_of (words_of bytes)).customers) depots) depots

-- as many of them as the sheet has
module _ (bytes : List ℕ) (s : Whole.Sheet) (tour : List ℕ) (e : read bytes ≡ sheet s tour) (all : List Customer) (told : AllOf bytes all) where
  abbrev held : List (CustomerOf Float)
  held = map fl_customer s.customers

  few-records : length s.customers ≤ 64
  few-records =
      let t = length-take 64 (map fl_customer (sheet_of (words_of bytes)).customers) in
      omega (arith, length-map s.customers fl_customer, ap length (customers-whole bytes s tour e), t)

  records-read : take (length s.customers) all ≡ map customer_in held
  records-read =
      sym (first-in (length s.customers) all)
      ∙ ap (λ (l : List (CustomerOf Float)). map customer_in (take (length s.customers) l))
      (told ∙ ap (λ (l : List (CustomerOf Float)). written l depots) (customers-whole bytes s tour e))
      ∙ ap (map customer_in) (take_at held (drop (length held) depots) (length s.customers) (length-map s.customers fl_customer))

module _ (bytes : List ℕ) (all : List Customer) (told : AllOf bytes all) (old : List Customer) (distances times calls : ℕ) where
  -- what is lent
  abbrev lent_rooms : List ℕ
  lent_rooms = length old ∷ distances ∷ times ∷ calls ∷ []

  -- the number that the answer counts
  abbrev counts : Reader.Reading → ℕ
  counts o = records_in (read_in o)

  -- what an answer leaves: so many of the records that were read, which are those of the sheet
  abbrev Left : Reader.Reading → Type 0
  Left o = written (take (min (counts o) (length old)) all) old ≡ written (map customer_in (map fl_customer (read_customers o))) old

  left_by : (o : Reader.Reading) → read bytes ≡ o → 64 ≤ length old → Left o
  left_by (refused_at n i) e long = written-room 0 all old zero-le
  left_by (sheet s tour) e long =
      written-room (length s.customers) all old (omega (arith, few-records bytes s tour e all told, long))
      ∙ ap (λ (l : List Customer). written l old) (records-read bytes s tour e all told)

  pub records-left : Left (read_into lent_rooms bytes)
  unfolding read_into
  records-left =
      by-test (short reader_needs lent_rooms)
      (λ h. rw h (written-room 0 all old zero-le))
      (λ h. rw h (left_by (read bytes) refl (at_least reader_needs lent_rooms h).0))
