-- Legs without a road: what is cut, evaluated, visited, marked, read and refused where a leg is closed. Each holds by computation. Assumes nothing.
use Prim.Native.Nat.{ℕ}
use mathlib.Core.Path.{◌≡◌, refl}
use mathlib.Core.Bool.{true, false}
use mathlib.Core.List.{List, [], ◌∷◌, ◌++◌, map}
use Rattle.std.specs.Prelude.{Option, None, Some}
use Rattle.definitions.specs.Domain.{no_road}
use Rattle.definitions.specs.Load.{of_seats, no_load}
use Rattle.definitions.specs.Sheet.{asking, Break, Customer, Sheet, depot, any_soft}
use Rattle.definitions.specs.Run.{legal}
use Rattle.definitions.specs.Clock.{arc}
use Rattle.definitions.specs.Evaluation.{route_eval, route_feasible, effective_cost}
use Rattle.definitions.specs.Drop.{split_tw, plain_arc, split}
use Rattle.definitions.specs.Visits.{Route, closed_leg, violation_number, violation_values, build_route}
use Rattle.definitions.specs.Marker.{overload, window_missed, best, road_closed, verdict_number, verdict_values, mark, run_fault, first_fault}
use Rattle.definitions.specs.Lent.{cutting, evaluating, marking, reversing, eliminating}
use Rattle.definitions.specs.Refusals.{bad_sheet, out_of_range, pairs_fall, closures_differ, any_closed, refusals, refusal_of}
use Rattle.definitions.specs.Words.{Word, word}
use Rattle.definitions.specs.Encoding.{encode, body_words}
use Rattle.definitions.specs.Reader.{read_words, walk, fault_at, may_stand, in_range, pair_falls, sheet_of, tour_of, sheet, refused_at}
use Rattle.definitions.proofs.Bench.{opened, window, pause, person, anyone, legs, base, tour, apart, single, nothing_served, totals, run}
use Rattle.definitions.proofs.FurtherSheets.{lend}

-- what these are computed through
unfoldable refusing : Unit {0}
unfolding refusal_of refusals bad_sheet out_of_range pairs_fall closures_differ any_closed any_soft
refusing = tt

unfoldable reading : Unit {0}
unfolding read_words walk fault_at may_stand in_range pair_falls sheet_of tour_of encode body_words
reading = tt

-- base with these legs, and with these times
abbrev roads : (distances times : List ℕ) → Sheet
roads distances times = record { head = base.head; customers = base.customers; legs = record { distances = distances; times = times } }

-- the ford on the way from 1 to 2; the way back is open
abbrev ford : Sheet
ford = roads (0 ∷ 10 ∷ 12 ∷ 10 ∷ 0 ∷ no_road ∷ 12 ∷ 5 ∷ 0 ∷ []) []

-- the same with a distance limit, or a break
abbrev ford_with : Option ℕ → Option Break → Sheet
ford_with max_distance rest =
    record {
      head = record { places = 3; capacity = of_seats 4; fixed = 0; max_distance = max_distance; max_duration = None; rest = rest };
      customers = ford.customers;
      legs = ford.legs;
    }

-- no way home from 1
abbrev away_from_one : List ℕ
away_from_one = 0 ∷ 10 ∷ 12 ∷ no_road ∷ 0 ∷ 5 ∷ 12 ∷ 5 ∷ 0 ∷ []

-- no way home at all
abbrev no_way_home : Sheet
no_way_home = roads (0 ∷ 10 ∷ 12 ∷ no_road ∷ 0 ∷ 5 ∷ no_road ∷ 5 ∷ 0 ∷ []) []

-- no leg from depot to depot
abbrev no_stay : Sheet
no_stay = roads (no_road ∷ 10 ∷ 12 ∷ 10 ∷ 0 ∷ 5 ∷ 12 ∷ 5 ∷ 0 ∷ []) []

-- ---- the cuts

-- the ford as words on base: two runs where there was one, and one the other way round; a closed leg is no long one
case-ford : (split_tw ford tour ≡ apart) × (split ford tour ≡ apart)
    × (split_tw ford (2 ∷ 1 ∷ []) ≡ record { served = 2 ∷ 1 ∷ []; ends = 2 ∷ []; dropped = []; cost = 27; distance = 27; places = 0 ∷ [] })
unfolding opened
case-ford = (refl, refl, refl)

-- no limit is needed for a closed leg to count: its number is within one that large
far-limit : legal (ford_with (Some 300000000) None)
    (run tour 0)
    ≡ false
unfolding opened
far-limit = refl

-- the only roads home are closed
case-no-way-home : (split_tw no_way_home tour ≡ nothing_served (1 ∷ 2 ∷ [])) × (split no_way_home tour ≡ nothing_served (1 ∷ 2 ∷ []))
unfolding opened
case-no-way-home = (refl, refl)

-- case l's trap: 1 is dropped though run 1 2 is legal; the closed way home bars run 1, and not the longer one
case-l-closed : (split_tw (roads away_from_one []) tour ≡ single 2 1 24) × (legal (roads away_from_one []) (run tour 0) ≡ true)
    × (arc (roads away_from_one []) (1 ∷ []) ≡ None)
    × (arc (roads away_from_one []) tour ≡ Some (record { place = 0; cost = 27 }))
    × (plain_arc (roads away_from_one []) (1 ∷ []) ≡ None)
    × (plain_arc (roads away_from_one []) tour ≡ Some (record { place = 0; cost = 27 }))
unfolding opened
case-l-closed = (refl, refl, refl, refl, refl, refl)

-- 1 has no way home and 2 is too big: each is dropped in its turn, the big one not first
abbrev big_second : Sheet
big_second =
    record {
      head = base.head;
      customers = depot ∷ anyone ∷ asking (of_seats 5) 0 None None ∷ [];
      legs = record { distances = away_from_one; times = [] };
    }

in-its-turn : (split big_second tour ≡ nothing_served (1 ∷ 2 ∷ [])) × (split_tw big_second tour ≡ nothing_served (1 ∷ 2 ∷ []))
    × (split big_second (2 ∷ 1 ∷ []) ≡ nothing_served (1 ∷ 2 ∷ []))
unfolding opened
in-its-turn = (refl, refl, refl)

-- with a break the clock goes no further either
rested-ford : route_eval (ford_with None (pause 0 30 4))
    tour
    ≡ None
unfolding opened
rested-ford = refl

-- closed in one table alone, which no accepted sheet is, bars the leg too
either-table : (legal (roads legs (0 ∷ 10 ∷ 12 ∷ 10 ∷ 0 ∷ no_road ∷ 12 ∷ 5 ∷ 0 ∷ [])) (run tour 0) ≡ false)
    × (legal (roads (0 ∷ 10 ∷ 12 ∷ 10 ∷ 0 ∷ no_road ∷ 12 ∷ 5 ∷ 0 ∷ []) legs) (run tour 0) ≡ false)
unfolding opened
either-table = (refl, refl)

-- ---- evaluations: no, none, infinite

evaluated-closed : (route_feasible ford tour ≡ false) × (route_eval ford tour ≡ None) × (effective_cost ford tour ≡ None)
    × (route_feasible no_way_home (1 ∷ []) ≡ false)
    × (route_feasible ford (2 ∷ 1 ∷ []) ≡ true)
unfolding opened
evaluated-closed = (refl, refl, refl, refl, refl)

-- an empty run is the leg from depot to depot, which others do not use
empty-run : (route_feasible no_stay [] ≡ false) × (route_feasible no_stay tour ≡ true) × (route_feasible ford [] ≡ true)
unfolding opened
empty-run = (refl, refl, refl)

-- ---- visits: no visit, all totals 0, no break, and the first closed leg as the only violation

abbrev barred : ℕ → Route
barred leg = record { visits = []; totals = totals 0 0 0 0 0; load = no_load; start = None; violations = closed_leg leg ∷ [] }

-- leg 2 is the one between the calls, leg 3 the way home, leg 1 leaves the depot
visits-closed : (build_route ford tour ≡ barred 2) × (build_route no_way_home tour ≡ barred 3) × (build_route no_stay [] ≡ barred 1)
    × (build_route no_way_home (1 ∷ []) ≡ barred 2)
    × (build_route ford (1 ∷ 2 ∷ 1 ∷ 2 ∷ []) ≡ barred 2)
unfolding opened
visits-closed = (refl, refl, refl, refl, refl)

-- the other violations are not looked at: too much load, a shut window, a break that cannot be placed
visits-closed-alone : build_route (record {
  head = record { places = 3; capacity = of_seats 1; fixed = 0; max_distance = Some 1; max_duration = Some 1; rest = pause 5 9 4 };
  customers = depot ∷ person (window 0 9) None ∷ anyone ∷ [];
  legs = ford.legs;
}) tour
    ≡ barred 2
unfolding opened
visits-closed-alone = refl

violation-numbered : (violation_number (closed_leg 4) ≡ 7) × (violation_values (closed_leg 4) ≡ 4 ∷ [])
violation-numbered = (refl, refl)

-- ---- marks: run by run, and in a run its closed leg first

-- three calls in a row, 10 apart, and the same way back; the legs from 2 to 3 and from 3 to 1 are closed
abbrev row : (capacity : ℕ) (first : Customer) → Sheet
row capacity first =
    record {
      head = record { places = 4; capacity = of_seats capacity; fixed = 0; max_distance = None; max_duration = None; rest = None };
      customers = depot ∷ first ∷ anyone ∷ anyone ∷ [];
      legs = record { distances = 0 ∷ 10 ∷ 20 ∷ 30 ∷ 10 ∷ 0 ∷ 10 ∷ 20 ∷ 20 ∷ 10 ∷ 0 ∷ no_road ∷ 30 ∷ no_road ∷ 10 ∷ 0 ∷ []; times = [] };
    }

abbrev three : List ℕ
three = 1 ∷ 2 ∷ 3 ∷ []

mark-closed : (mark (row 6 anyone) three (run three 0 ∷ []) ≡ road_closed 1 3)
    × (mark (row 6 anyone) three (run (1 ∷ []) 0 ∷ run (2 ∷ 3 ∷ []) 0 ∷ []) ≡ road_closed 2 2)
    × (mark (row 6 anyone) three (run (1 ∷ 2 ∷ []) 0 ∷ run (3 ∷ []) 0 ∷ []) ≡ best)
unfolding opened
mark-closed = (refl, refl, refl)

-- an overload in run 1 comes before a closed leg in run 2, and the reverse
mark-run-by-run : (mark (row 3 anyone) three (run (1 ∷ 2 ∷ []) 0 ∷ run (3 ∷ []) 0 ∷ []) ≡ overload 1 4 3)
    × (first_fault (row 3 anyone) 1 (run (1 ∷ 2 ∷ []) 0 ∷ run (3 ∷ 1 ∷ []) 0 ∷ []) ≡ Some (overload 1 4 3))
    × (first_fault (row 3 anyone) 1 (run (3 ∷ 1 ∷ []) 0 ∷ run (1 ∷ 2 ∷ []) 0 ∷ []) ≡ Some (road_closed 1 2))
unfolding opened
mark-run-by-run = (refl, refl, refl)

-- in one run the closed leg comes before its load, and before a call on the way to it that fails
mark-before-load : (mark (row 3 anyone) three (run three 0 ∷ []) ≡ road_closed 1 3)
    × (run_fault (row 6 (person (window 0 9) None)) 1 (run three 0) ≡ Some (road_closed 1 3))
    × (run_fault (row 6 (person (window 0 9) None)) 1 (run (1 ∷ 2 ∷ []) 0) ≡ Some (window_missed 1 1 1 10 9))
unfolding opened
mark-before-load = (refl, refl, refl)

-- the leg home has the number behind the last call's
mark-way-home : run_fault no_way_home 4 (run tour 0) ≡ Some (road_closed 4 3)
unfolding opened
mark-way-home = refl

verdict-numbered : (verdict_number (road_closed 2 5) ≡ 12) × (verdict_values (road_closed 2 5) ≡ 2 ∷ 5 ∷ [])
verdict-numbered = (refl, refl)

-- ---- refusals

-- 1 lets a closed leg pass in either table, and nothing else above 10,000,000; nowhere else may it stand
range-closed : (refusal_of Some evaluating (lend ford [] [] [] [] []) ≡ None)
    × (refusal_of Some evaluating (lend (roads ford.legs.distances ford.legs.distances) [] [] [] [] []) ≡ None)
    × (refusal_of Some evaluating (lend (roads (0 ∷ 10 ∷ 12 ∷ 10 ∷ 0 ∷ 268435454 ∷ 12 ∷ 5 ∷ 0 ∷ []) []) [] [] [] [] []) ≡ Some 1)
    × (refusal_of Some evaluating (lend (roads (0 ∷ 10 ∷ 12 ∷ 10 ∷ 0 ∷ 268435456 ∷ 12 ∷ 5 ∷ 0 ∷ []) []) [] [] [] [] []) ≡ Some 1)
    × (refusal_of Some evaluating (lend (roads legs (0 ∷ 10 ∷ 12 ∷ 10 ∷ 0 ∷ 10000001 ∷ 12 ∷ 5 ∷ 0 ∷ [])) [] [] [] [] []) ≡ Some 1)
    × (refusal_of Some evaluating (lend (record { head = base.head; customers = depot ∷ asking no_load no_road None None ∷ anyone ∷ []; legs = base.legs }) [] [] [] [] []) ≡ Some 1)
unfolding refusing
range-closed = (refl, refl, refl, refl, refl, refl)

-- 22: closed by the distance alone, by the time alone, on the diagonal
disagreeing : (refusal_of Some evaluating (lend (roads ford.legs.distances legs) [] [] [] [] []) ≡ Some 22)
    × (refusal_of Some evaluating (lend (roads legs ford.legs.distances) [] [] [] [] []) ≡ Some 22)
    × (refusal_of Some evaluating (lend (roads no_stay.legs.distances legs) [] [] [] [] []) ≡ Some 22)
    × (refusal_of Some evaluating (lend (roads no_stay.legs.distances ford.legs.distances) [] [] [] [] []) ≡ Some 22)
unfolding refusing
disagreeing = (refl, refl, refl, refl)

-- 22 after 2 and before 5; a customer 1 with a window that falls, and run ends that are not the number of calls
abbrev falling : Customer
falling = person (window 5 4) None

abbrev falling_apart : Sheet
falling_apart = record { head = base.head; customers = depot ∷ falling ∷ anyone ∷ []; legs = record { distances = ford.legs.distances; times = legs } }

order-22 : (refusal_of Some marking (lend falling_apart [] [] (1 ∷ []) (0 ∷ []) []) ≡ Some 2)
    × (refusal_of Some marking (lend (roads ford.legs.distances legs) [] [] (1 ∷ []) (0 ∷ []) []) ≡ Some 22)
    × (refusal_of Some marking (lend ford [] [] (1 ∷ []) (0 ∷ []) []) ≡ Some 5)
unfolding refusing
order-22 = (refl, refl, refl)

-- 23 for the improvers alone, whether a run uses the leg or not, and after 4
abbrev paying : Sheet
paying = record { head = base.head; customers = depot ∷ person (window 0 9) (Some 0) ∷ anyone ∷ []; legs = ford.legs }

order-23 : (refusal_of Some reversing (lend ford [] (2 ∷ 1 ∷ []) [] [] (2 ∷ [])) ≡ Some 23)
    × (refusal_of Some eliminating (lend ford [] [] [] [] (0 ∷ 0 ∷ [])) ≡ Some 23)
    × (refusal_of Some reversing (lend no_stay [] tour [] [] (2 ∷ [])) ≡ Some 23)
    × (refusal_of Some reversing (lend paying [] tour [] [] (2 ∷ [])) ≡ Some 4)
    × (refusal_of Some cutting (lend ford tour [] [] [] (2 ∷ 2 ∷ 2 ∷ [])) ≡ None)
unfolding refusing
order-23 = (refl, refl, refl, refl, refl)

-- ---- the reader

-- one customer, with these distances and times, and the word F
abbrev words : (distances times : List ℕ) → ℕ → List Word
words distances times n =
    word 1 2 ∷ word 2 5 ∷ word 3 0 ∷ word 7 2 ∷ word 8 0 ∷ (map (word 0xC) distances ++ (map (word 0xD) times ++ (word 0xE 1 ∷ word 0xF n ∷ [])))

abbrev said : (distances times : List ℕ) → Sheet
said distances times =
    record {
      head = record { places = 2; capacity = of_seats 5; fixed = 0; max_distance = None; max_duration = None; rest = None };
      customers = depot ∷ asking (of_seats 2) 0 None None ∷ [];
      legs = record { distances = distances; times = times };
    }

reads-closed : (read_words (words (0 ∷ 3 ∷ no_road ∷ 0 ∷ []) [] 10) false ≡ sheet (said (0 ∷ 3 ∷ no_road ∷ 0 ∷ []) []) (1 ∷ []))
    × (read_words (words (0 ∷ 3 ∷ no_road ∷ 0 ∷ []) (1 ∷ 4 ∷ no_road ∷ 1 ∷ []) 14) false ≡ sheet (said (0 ∷ 3 ∷ no_road ∷ 0 ∷ []) (1 ∷ 4 ∷ no_road ∷ 1 ∷ [])) (1 ∷ []))
unfolding reading
reads-closed = (refl, refl)

-- the first D word that disagrees with its C word, whichever of the two is closed
names-the-time : (read_words (words (0 ∷ 3 ∷ no_road ∷ 0 ∷ []) (1 ∷ 4 ∷ 5 ∷ no_road ∷ []) 14) false ≡ refused_at 22 11)
    × (read_words (words (0 ∷ 3 ∷ 3 ∷ 0 ∷ []) (no_road ∷ 4 ∷ 5 ∷ no_road ∷ []) 14) false ≡ refused_at 22 9)
    × (read_words (words (0 ∷ 3 ∷ 3 ∷ no_road ∷ []) (1 ∷ 4 ∷ 5 ∷ 1 ∷ []) 14) false ≡ refused_at 22 12)
    × (read_words (words (no_road ∷ 3 ∷ 3 ∷ no_road ∷ []) (no_road ∷ no_road ∷ 5 ∷ 1 ∷ []) 14) false ≡ refused_at 22 10)
unfolding reading
names-the-time = (refl, refl, refl, refl)

-- 1 lets FFFFFFF pass in C and D words alone, and 1 comes before 22
reader-range : (read_words (words (0 ∷ 3 ∷ 0xFFFFFFE ∷ 0 ∷ []) [] 10) false ≡ refused_at 1 7)
    × (read_words (words (0 ∷ 3 ∷ no_road ∷ 0 ∷ []) (1 ∷ 4 ∷ 0xFFFFFFE ∷ 1 ∷ []) 14) false ≡ refused_at 1 11)
    × (read_words (word 1 2 ∷ word 2 5 ∷ word 3 no_road ∷ []) false ≡ refused_at 1 2)
unfolding reading
reader-range = (refl, refl, refl)

-- at one word 11 comes before too: a D word that may not stand
kind-before-closure : read_words (words (0 ∷ 3 ∷ 0 ∷ 0 ∷ []) (1 ∷ 1 ∷ 1 ∷ 1 ∷ no_road ∷ []) 15) false ≡ refused_at 11 13
unfolding reading
kind-before-closure = refl

writes-closed : encode [] (said (0 ∷ 3 ∷ no_road ∷ 0 ∷ []) (1 ∷ 4 ∷ no_road ∷ 1 ∷ [])) (1 ∷ []) ≡ words (0 ∷ 3 ∷ no_road ∷ 0 ∷ []) (1 ∷ 4 ∷ no_road ∷ 1 ∷ []) 14
unfolding reading
writes-closed = refl
