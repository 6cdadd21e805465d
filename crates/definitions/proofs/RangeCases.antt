-- The range of each number of a sheet: one number at a time goes one beyond it. Each holds by computation. Assumes nothing.
use Prim.Native.Nat.{ℕ}
use mathlib.Core.Path.{◌≡◌, refl}
use mathlib.Core.List.{List, [], ◌∷◌}
use Rattle.std.specs.Prelude.{Option, None, Some}
use lib.ListN.{replicate}
use Rattle.definitions.specs.Load.{of_seats}
use Rattle.definitions.specs.Sheet.{asking, Customer, HeadOf, LegsOf, Sheet, depot, any_soft}
use Rattle.definitions.specs.Lent.{whole_sheet, cutting}
use Rattle.definitions.specs.Refusals.{bad_sheet, out_of_range, pairs_fall, closures_differ, any_closed, refusals, refusal_of}
use Rattle.definitions.proofs.Bench.{window, pause}
use Rattle.definitions.proofs.FurtherSheets.{lend}

refusing : Unit {0}
unfolding refusal_of refusals bad_sheet out_of_range pairs_fall closures_differ any_closed any_soft whole_sheet
refusing = tt

-- ---- a sheet with every number that one may have

abbrev heading : (capacity fixed far long earliest latest duration : ℕ) → HeadOf ℕ
heading capacity fixed far long earliest latest duration =
    record { places = 2; capacity = of_seats capacity; fixed = fixed; max_distance = Some far; max_duration = Some long; rest = pause earliest latest duration }

abbrev small : HeadOf ℕ
small = heading 5 1 9 9 1 2 3

abbrev client : (seats service ready due penalty : ℕ) → Customer
client seats service ready due penalty = asking (of_seats seats) service (window ready due) (Some penalty)

abbrev common : Customer
common = client 1 1 2 3 4

abbrev table : ℕ → List ℕ
table last = 0 ∷ 1 ∷ 1 ∷ last ∷ []

abbrev tables : List ℕ → List ℕ → LegsOf ℕ
tables distances times = record { distances = distances; times = times }

abbrev near : LegsOf ℕ
near = tables (table 0) (table 0)

-- the number by which `split_tw` refuses a tour of its one customer
abbrev answers : HeadOf ℕ → List Customer → LegsOf ℕ → Option ℕ
answers head customers legs = refusal_of Some cutting (lend (record { head = head; customers = depot ∷ customers; legs = legs }) (1 ∷ []) [] [] [] (1 ∷ 1 ∷ 1 ∷ []))

-- a number beyond any range but that of the capacity
abbrev beyond : ℕ
beyond = 10000001

-- ---- accepted: in range, and all at the end of their ranges

accepted : answers small (common ∷ []) near ≡ None
unfolding refusing
accepted = refl

most : answers (heading 1000000 10000000 10000000 10000000 10000000 10000000 10000000) (client 32767 10000000 10000000 10000000 1000 ∷ []) (tables (replicate 4 10000000) (replicate 4 10000000)) ≡ None
unfolding refusing
most = refl

-- a record beyond the places is not read
records-beyond-the-places : answers small (common ∷ client 40000 beyond 9 1 5 ∷ []) near ≡ None
unfolding refusing
records-beyond-the-places = refl

-- ---- one number too large

capacity : answers (heading 1000001 1 9 9 1 2 3) (common ∷ []) near ≡ Some 1
unfolding refusing
capacity = refl

fixed : answers (heading 5 beyond 9 9 1 2 3) (common ∷ []) near ≡ Some 1
unfolding refusing
fixed = refl

distance-limit : answers (heading 5 1 beyond 9 1 2 3) (common ∷ []) near ≡ Some 1
unfolding refusing
distance-limit = refl

duration-limit : answers (heading 5 1 9 beyond 1 2 3) (common ∷ []) near ≡ Some 1
unfolding refusing
duration-limit = refl

earliest : answers (heading 5 1 9 9 beyond 2 3) (common ∷ []) near ≡ Some 1
unfolding refusing
earliest = refl

latest : answers (heading 5 1 9 9 1 beyond 3) (common ∷ []) near ≡ Some 1
unfolding refusing
latest = refl

break-duration : answers (heading 5 1 9 9 1 2 beyond) (common ∷ []) near ≡ Some 1
unfolding refusing
break-duration = refl

demand : answers small (client 32768 1 2 3 4 ∷ []) near ≡ Some 1
unfolding refusing
demand = refl

service : answers small (client 1 beyond 2 3 4 ∷ []) near ≡ Some 1
unfolding refusing
service = refl

ready : answers small (client 1 1 beyond 3 4 ∷ []) near ≡ Some 1
unfolding refusing
ready = refl

due : answers small (client 1 1 2 beyond 4 ∷ []) near ≡ Some 1
unfolding refusing
due = refl

penalty : answers small (client 1 1 2 3 1001 ∷ []) near ≡ Some 1
unfolding refusing
penalty = refl

distance : answers small (common ∷ []) (tables (table beyond) (table 0)) ≡ Some 1
unfolding refusing
distance = refl

time : answers small (common ∷ []) (tables (table 0) (table beyond)) ≡ Some 1
unfolding refusing
time = refl

-- ---- a window that falls; tables that are too long

window-falls : answers small (client 1 1 3 2 4 ∷ []) near ≡ Some 2
unfolding refusing
window-falls = refl

-- that of the last customer
last-window-falls : refusal_of Some cutting
    (lend
    (record {
      head = record { places = 3; capacity = of_seats 5; fixed = 1; max_distance = None; max_duration = None; rest = None };
      customers = depot ∷ asking (of_seats 1) 0 None None ∷ asking (of_seats 1) 0 (window 3 2) None ∷ [];
      legs = tables (replicate 9 0) [];
    })
    (1 ∷ []) [] [] [] (1 ∷ 1 ∷ 1 ∷ []))
    ≡ Some 2
unfolding refusing
last-window-falls = refl

long-distances : answers small (common ∷ []) (tables (0 ∷ table 0) (table 0)) ≡ Some 14
unfolding refusing
long-distances = refl

long-times : answers small (common ∷ []) (tables (table 0) (0 ∷ table 0)) ≡ Some 14
unfolding refusing
long-times = refl
