-- The refusals of the other calls, on the base of the bench cases and small changes of it. Each holds by computation.
use Prim.Native.Nat.{ℕ}
use mathlib.Core.Path.{◌≡◌, refl}
use mathlib.Core.List.{List, [], ◌∷◌, ◌++◌, map}
use Rattle.std.specs.Prelude.{Option, None, Some}
use lib.ListN.{replicate}
use Rattle.definitions.specs.Load.{no_load, of_seats}
use Rattle.definitions.specs.Sheet.{asking, WindowOf, BreakOf, CustomerOf, SheetOf, any_soft}
use Rattle.definitions.specs.Lent.{Lent, cutting, evaluating, visiting, marking, reversing, eliminating}
use Rattle.definitions.specs.Refusals.{bad_sheet, out_of_range, pairs_fall, closures_differ, any_closed, refusals, refusal_of}

-- a stored number: a whole one, or one that is a fraction, below 0, negative zero or not finite
data Stored : Type 0 where
  held : ℕ → Stored
  odd : Stored

abbrev value : Stored → Option ℕ
value (held n) = Some n
value odd = None

-- ---- what is lent

abbrev depot : CustomerOf Stored
depot = asking no_load (held 0) None None

abbrev person : Option (WindowOf Stored) → Option Stored → CustomerOf Stored
person w p = asking (of_seats 2) (held 0) w p

abbrev two : List (CustomerOf Stored)
two = depot ∷ person None None ∷ person None None ∷ []

-- customer 1 has a window, and perhaps a penalty
abbrev timed : ℕ → ℕ → Option Stored → List (CustomerOf Stored)
timed r d p = depot ∷ person (Some (record { ready = held r; due = held d })) p ∷ person None None ∷ []

abbrev rest : ℕ → ℕ → Option (BreakOf Stored)
rest e l = Some (record { earliest = held e; latest = held l; duration = held 4 })

abbrev legs : List Stored
legs = map held (0 ∷ 10 ∷ 12 ∷ 10 ∷ 0 ∷ 5 ∷ 12 ∷ 5 ∷ 0 ∷ [])

abbrev sheet_of : (places capacity : ℕ) (fixed : Stored) → Option (BreakOf Stored) → List (CustomerOf Stored) → (distances times : List Stored) → SheetOf Stored
sheet_of n k f b cs d t =
    record {
      head = record { places = n; capacity = of_seats k; fixed = f; max_distance = None; max_duration = None; rest = b };
      customers = cs;
      legs = record { distances = d; times = t };
    }

-- three places with these customers
abbrev with : List (CustomerOf Stored) → SheetOf Stored
with cs = sheet_of 3 4 (held 0) None cs legs []

abbrev base : SheetOf Stored
base = with two

-- case c: capacity 1
abbrev case_c : SheetOf Stored
case_c = sheet_of 3 1 (held 0) None two legs []

-- case g: customer 1 due 9
abbrev case_g : SheetOf Stored
case_g = with (timed 0 9 None)

-- lateness pay, though 0
abbrev pay : SheetOf Stored
pay = with (timed 0 9 (Some (held 0)))

abbrev rested : SheetOf Stored
rested = sheet_of 3 4 (held 0) (rest 20 30) two legs []

-- for the cutting: a tour
abbrev to_cut : SheetOf Stored → List ℕ → (rooms : List ℕ) → Lent Stored
to_cut s tour rooms = record { sheet = s; tour = tour; calls = []; ends = []; breaks = []; rooms = rooms }

-- for the evaluators, the visits and two_opt_improve: a run
abbrev to_run : SheetOf Stored → List ℕ → (rooms : List ℕ) → Lent Stored
to_run s run rooms = record { sheet = s; tour = []; calls = run; ends = []; breaks = []; rooms = rooms }

-- for the marker: a tour, and a run list with break places
abbrev to_mark : SheetOf Stored → (tour calls ends breaks : List ℕ) → Lent Stored
to_mark s tour calls ends breaks = record { sheet = s; tour = tour; calls = calls; ends = ends; breaks = breaks; rooms = [] }

-- for elimination: a run list
abbrev to_eliminate : SheetOf Stored → (calls ends rooms : List ℕ) → Lent Stored
to_eliminate s calls ends rooms = record { sheet = s; tour = []; calls = calls; ends = ends; breaks = []; rooms = rooms }

-- calls 1 and 2
abbrev both : List ℕ
both = 1 ∷ 2 ∷ []

abbrev rooms : List ℕ
rooms = 2 ∷ 2 ∷ 2 ∷ []

-- what the refusals are computed through
opened : Unit {0}
unfolding refusal_of refusals out_of_range bad_sheet pairs_fall closures_differ any_closed any_soft
opened = tt

accepts-base : refusal_of value cutting (to_cut base both rooms) ≡ None
unfolding opened
accepts-base = refl

-- ---- 13: a lent buffer too short

few-customers : refusal_of value cutting (to_cut (sheet_of 4 4 (held 0) None two legs []) both rooms) ≡ Some 13
unfolding opened
few-customers = refl

short-result : refusal_of value cutting (to_cut base both (2 ∷ 2 ∷ 1 ∷ [])) ≡ Some 13
unfolding opened
short-result = refl

-- visits, and three more violations than calls
short-visits : (refusal_of value visiting (to_run base both (1 ∷ 6 ∷ [])) ≡ Some 13) × (refusal_of value visiting (to_run base both (2 ∷ 5 ∷ [])) ≡ Some 13)
unfolding opened
short-visits = (refl, refl)

visits-enough : refusal_of value visiting (to_run base both (2 ∷ 6 ∷ [])) ≡ None
unfolding opened
visits-enough = refl

-- the improvers' result lists are their own: calls, and run ends
short-improved : (refusal_of value reversing (to_run base both (1 ∷ [])) ≡ Some 13)
    × (refusal_of value eliminating (to_eliminate base both (0 ∷ 1 ∷ 2 ∷ []) (1 ∷ 3 ∷ [])) ≡ Some 13) × (refusal_of value eliminating (to_eliminate base both (0 ∷ 1 ∷ 2 ∷ []) (2 ∷ 2 ∷ [])) ≡ Some 13)
unfolding opened
short-improved = (refl, refl, refl)

improved-enough : (refusal_of value reversing (to_run base both (2 ∷ [])) ≡ None) × (refusal_of value eliminating (to_eliminate base both (0 ∷ 1 ∷ 2 ∷ []) (2 ∷ 3 ∷ [])) ≡ None)
unfolding opened
improved-enough = (refl, refl)

few-breaks : refusal_of value marking (to_mark base both both both (0 ∷ [])) ≡ Some 13
unfolding opened
few-breaks = refl

-- ---- 14: a leg table not places squared long

odd-tables : (refusal_of value evaluating (to_run (sheet_of 3 4 (held 0) None two (held 0 ∷ []) []) both []) ≡ Some 14)
    × (refusal_of value evaluating (to_run (sheet_of 3 4 (held 0) None two legs (held 0 ∷ [])) both []) ≡ Some 14)
unfolding opened
odd-tables = (refl, refl)

-- ---- 1: a number out of range

fraction : refusal_of value evaluating (to_run (sheet_of 3 4 odd None two legs []) both []) ≡ Some 1
unfolding opened
fraction = refl

large : refusal_of value evaluating (to_run (sheet_of 3 4 (held 10000001) None two legs []) both []) ≡ Some 1
unfolding opened
large = refl

-- no place, and one more than 64
odd-places : (refusal_of value evaluating (to_run (sheet_of 0 4 (held 0) None two [] []) [] []) ≡ Some 1)
    × (refusal_of value evaluating (to_run (sheet_of 65 4 (held 0) None (replicate 65 depot) (replicate 4225 (held 0)) []) [] []) ≡ Some 1)
unfolding opened
odd-places = (refl, refl)

-- a demand and a penalty at their limits, and one more each
abbrev demanding : ℕ → ℕ → SheetOf Stored
demanding demand penalty = with (depot ∷ asking (of_seats demand) (held 0) None (Some (held penalty)) ∷ person None None ∷ [])

large-customer : (refusal_of value evaluating (to_run (demanding 32768 1000) both []) ≡ Some 1) × (refusal_of value evaluating (to_run (demanding 32767 1001) both []) ≡ Some 1)
    × (refusal_of value evaluating (to_run (demanding 32767 1000) both []) ≡ None)
unfolding opened
large-customer = (refl, refl, refl)

-- the depot with demand, or with service
depot-served : (refusal_of value evaluating (to_run (with (asking (of_seats 1) (held 0) None None ∷ two)) both []) ≡ Some 1)
    × (refusal_of value evaluating (to_run (with (asking no_load (held 1) None None ∷ two)) both []) ≡ Some 1)
unfolding opened
depot-served = (refl, refl)

-- with a window, though one at 0, or with a penalty
depot-window : refusal_of value evaluating (to_run (with (asking no_load (held 0) (Some (record { ready = held 0; due = held 0 })) None ∷ two)) both []) ≡ Some 1
unfolding opened
depot-window = refl

depot-penalty : refusal_of value evaluating (to_run (with (asking no_load (held 0) None (Some (held 0)) ∷ two)) both []) ≡ Some 1
unfolding opened
depot-penalty = refl

-- customers beyond the places are not read
beyond : refusal_of value evaluating (to_run (with (two ++ (person None (Some odd) ∷ []))) both []) ≡ None
unfolding opened
beyond = refl

-- a call 0, in a tour, a run, and each of the marker's two lists
call-zero : (refusal_of value cutting (to_cut base (0 ∷ []) rooms) ≡ Some 1) × (refusal_of value evaluating (to_run base (0 ∷ []) []) ≡ Some 1)
    × (refusal_of value marking (to_mark base (0 ∷ []) both (2 ∷ []) (0 ∷ [])) ≡ Some 1) × (refusal_of value marking (to_mark base both (0 ∷ []) (1 ∷ []) (0 ∷ [])) ≡ Some 1)
unfolding opened
call-zero = (refl, refl, refl, refl)

-- there is no customer 3
call-beyond : (refusal_of value cutting (to_cut base (3 ∷ []) rooms) ≡ Some 1) × (refusal_of value evaluating (to_run base (3 ∷ []) []) ≡ Some 1)
unfolding opened
call-beyond = (refl, refl)

many-calls : (refusal_of value marking (to_mark base (replicate 129 1) [] [] []) ≡ Some 1) × (refusal_of value evaluating (to_run base (replicate 129 1) []) ≡ Some 1)
unfolding opened
many-calls = (refl, refl)

-- 128 calls of one customer: a run may be so, a tour repeats
full-calls : (refusal_of value marking (to_mark base (replicate 128 1) [] [] []) ≡ Some 21) × (refusal_of value evaluating (to_run base (replicate 128 1) []) ≡ None)
unfolding opened
full-calls = (refl, refl)

-- ---- 21: a repeated customer

-- next to each other, and with another call between
repeated : (refusal_of value cutting (to_cut base (1 ∷ 1 ∷ []) rooms) ≡ Some 21) × (refusal_of value marking (to_mark base (2 ∷ 1 ∷ 2 ∷ []) both (2 ∷ []) (0 ∷ [])) ≡ Some 21)
unfolding opened
repeated = (refl, refl)

-- a run, and a run list, may repeat
repeated-run : (refusal_of value evaluating (to_run base (1 ∷ 1 ∷ []) []) ≡ None) × (refusal_of value visiting (to_run base (1 ∷ 1 ∷ []) (2 ∷ 6 ∷ [])) ≡ None)
    × (refusal_of value reversing (to_run base (1 ∷ 1 ∷ []) (2 ∷ [])) ≡ None) × (refusal_of value eliminating (to_eliminate base (1 ∷ 1 ∷ []) both (2 ∷ 2 ∷ [])) ≡ None)
    × (refusal_of value marking (to_mark base both (1 ∷ 1 ∷ []) (2 ∷ []) (0 ∷ [])) ≡ None)
unfolding opened
repeated-run = (refl, refl, refl, refl, refl)

-- the repeat of a call that is no customer is 1, and so is one behind a number out of range; a falling pair beside a repeat is 21
repeated-in-order : (refusal_of value cutting (to_cut base (3 ∷ 3 ∷ []) rooms) ≡ Some 1)
    × (refusal_of value marking (to_mark (sheet_of 3 4 odd None two legs []) (1 ∷ 1 ∷ []) both (2 ∷ []) (0 ∷ [])) ≡ Some 1)
    × (refusal_of value cutting (to_cut (with (timed 5 4 None)) (1 ∷ 1 ∷ []) rooms) ≡ Some 21)
    × (refusal_of value marking (to_mark (with (timed 5 4 None)) (1 ∷ 1 ∷ []) both (1 ∷ []) (0 ∷ [])) ≡ Some 21)
unfolding opened
repeated-in-order = (refl, refl, refl, refl)

-- ---- 2: ready above due, earliest above latest

falling-pairs : (refusal_of value evaluating (to_run (with (timed 5 4 None)) both []) ≡ Some 2)
    × (refusal_of value cutting (to_cut (sheet_of 3 4 (held 0) (rest 31 30) two legs []) both rooms) ≡ Some 2)
unfolding opened
falling-pairs = (refl, refl)

-- a window, and a break's start, that are a moment
moments : refusal_of value cutting (to_cut (sheet_of 3 4 (held 0) (rest 30 30) (timed 5 5 None) legs []) both rooms) ≡ None
unfolding opened
moments = refl

-- ---- 5: run ends and break places

odd-ends : (refusal_of value eliminating (to_eliminate base both (2 ∷ 1 ∷ 2 ∷ []) (2 ∷ 3 ∷ [])) ≡ Some 5)
    × (refusal_of value eliminating (to_eliminate base both (1 ∷ []) (2 ∷ 1 ∷ [])) ≡ Some 5) × (refusal_of value eliminating (to_eliminate base both [] (2 ∷ 0 ∷ [])) ≡ Some 5)
unfolding opened
odd-ends = (refl, refl, refl)

-- an end beyond the calls is no number out of range
end-beyond : refusal_of value eliminating (to_eliminate base both (1000 ∷ []) (2 ∷ 1 ∷ [])) ≡ Some 5
unfolding opened
end-beyond = refl

-- 128 run ends, and one more
many-ends : (refusal_of value eliminating (to_eliminate base [] (replicate 128 0) (0 ∷ 128 ∷ [])) ≡ None) × (refusal_of value eliminating (to_eliminate base [] (replicate 129 0) (0 ∷ 129 ∷ [])) ≡ Some 5)
unfolding opened
many-ends = (refl, refl)

-- an empty run is the marker's refusal alone
empty-run : (refusal_of value eliminating (to_eliminate base both (0 ∷ 2 ∷ []) (2 ∷ 2 ∷ [])) ≡ None) × (refusal_of value marking (to_mark base both both (0 ∷ 2 ∷ []) (0 ∷ 0 ∷ [])) ≡ Some 5)
unfolding opened
empty-run = (refl, refl)

-- a break place on a sheet without a break, and one beyond its run
break-beyond : (refusal_of value marking (to_mark base both both (2 ∷ []) (1 ∷ [])) ≡ Some 5) × (refusal_of value marking (to_mark rested both both both (0 ∷ 2 ∷ [])) ≡ Some 5)
unfolding opened
break-beyond = (refl, refl)

-- break places behind those of the runs are not read
break-within : refusal_of value marking (to_mark rested both both both (0 ∷ 1 ∷ 9 ∷ [])) ≡ None
unfolding opened
break-within = refl

-- the marker's ends count its runs' calls, whatever the tour: no run in case c, case g's run of call 2, and a call more than the tour has
marked : (refusal_of value marking (to_mark case_c both [] [] []) ≡ None) × (refusal_of value marking (to_mark case_g both (2 ∷ []) (1 ∷ []) (0 ∷ [])) ≡ None)
    × (refusal_of value marking (to_mark base both (1 ∷ 2 ∷ 1 ∷ []) (3 ∷ []) (0 ∷ [])) ≡ None)
unfolding opened
marked = (refl, refl, refl)

-- ---- 4: lateness pay on a sheet given to an improver

paid : (refusal_of value reversing (to_run pay both (2 ∷ [])) ≡ Some 4) × (refusal_of value eliminating (to_eliminate pay both (2 ∷ []) (2 ∷ 1 ∷ [])) ≡ Some 4)
unfolding opened
paid = (refl, refl)

-- and to no other call
paid-elsewhere : (refusal_of value cutting (to_cut pay both rooms) ≡ None) × (refusal_of value evaluating (to_run pay both []) ≡ None)
    × (refusal_of value visiting (to_run pay both (2 ∷ 6 ∷ [])) ≡ None) × (refusal_of value marking (to_mark pay both both (2 ∷ []) (0 ∷ [])) ≡ None)
unfolding opened
paid-elsewhere = (refl, refl, refl, refl)

-- a penalty without a window is none, and neither is a window without a penalty
unpaid : (refusal_of value reversing (to_run (with (depot ∷ person None (Some (held 7)) ∷ person None None ∷ [])) both (2 ∷ [])) ≡ None)
    × (refusal_of value reversing (to_run (with (timed 4 5 None)) both (2 ∷ [])) ≡ None)
unfolding opened
unpaid = (refl, refl)

-- ---- the order

-- elimination on a sheet with lateness pay; each argument may hold what one more refusal fits
abbrev faulty : (rooms : List ℕ) (distances : List Stored) (fixed : Stored) (ready : ℕ) (ends : List ℕ) → Lent Stored
faulty rooms d f r ends = to_eliminate (sheet_of 3 4 f None (timed r 9 (Some (held 0))) d []) both ends rooms

-- all six fit, and with each one mended the next is given
ordered : (refusal_of value eliminating (faulty [] [] odd 10 (1 ∷ [])) ≡ Some 13) × (refusal_of value eliminating (faulty rooms [] odd 10 (1 ∷ [])) ≡ Some 14)
    × (refusal_of value eliminating (faulty rooms legs odd 10 (1 ∷ [])) ≡ Some 1) × (refusal_of value eliminating (faulty rooms legs (held 0) 10 (1 ∷ [])) ≡ Some 2)
    × (refusal_of value eliminating (faulty rooms legs (held 0) 9 (1 ∷ [])) ≡ Some 5) × (refusal_of value eliminating (faulty rooms legs (held 0) 9 (2 ∷ [])) ≡ Some 4)
unfolding opened
ordered = (refl, refl, refl, refl, refl, refl)
