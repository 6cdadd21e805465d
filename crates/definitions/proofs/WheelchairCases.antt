-- Wheelchair places beside seats: what is read, cut, marked, visited and eliminated where the second measure decides. Each holds by computation. Assumes nothing.
use Prim.Native.Nat.{ℕ}
use mathlib.Core.Path.{◌≡◌, refl}
use mathlib.Core.Bool.{true, false}
use mathlib.Core.List.{List, [], ◌∷◌, ◌++◌, map}
use Rattle.std.specs.Prelude.{None, Some}
use lib.ListN.{replicate}
use Rattle.definitions.specs.Load.{Load, no_load, of_seats}
use Rattle.definitions.specs.Sheet.{asking, Sheet, depot, any_soft}
use Rattle.definitions.specs.Drop.{Result}
use Rattle.definitions.specs.Visits.{over_capacity, over_distance, over_wheelchairs}
use Rattle.definitions.specs.Marker.{overload, window_missed, best, mark, wheelchair_overload}
use Rattle.definitions.specs.RunList.{runs_from}
use Rattle.definitions.specs.Sort.{insert, sort}
use Rattle.definitions.specs.Improver.{checks_needed}
use Rattle.definitions.specs.Elimination as Elimination
use Rattle.definitions.specs.Elimination.{candidates, first_below, placed_all, emptied, first_emptied, search, searches, eliminated}
use Rattle.definitions.specs.Lent.{whole_sheet, evaluating}
use Rattle.definitions.specs.Refusals.{bad_sheet, out_of_range, pairs_fall, closures_differ, any_closed, refusals, refusal_of}
use Rattle.definitions.specs.Answers.{refused, gives, answer, route_feasible_of, split_tw_of, split_of, build_route_of, eliminate_of}
use Rattle.definitions.specs.Words.{Word, word}
use Rattle.definitions.specs.Encoding.{encode, body_words}
use Rattle.definitions.specs.Reader.{read_words, walk, fault_at, may_stand, in_range, pair_falls, sheet_of, tour_of, sheet, refused_at}
use Rattle.definitions.proofs.Bench.{opened, window, run}
use Rattle.definitions.proofs.FurtherSheets.{lend}

-- what these are computed through
unfoldable answering : Unit {0}
unfolding opened answer refusal_of refusals bad_sheet out_of_range pairs_fall closures_differ any_closed any_soft whole_sheet runs_from
    checks_needed eliminated searches search first_emptied emptied placed_all Elimination.placed first_below
    candidates sort insert
answering = tt

unfoldable reading : Unit {0}
unfolding read_words walk fault_at may_stand in_range pair_falls sheet_of tour_of encode body_words
reading = tt

-- ---- a line of three calls, 10, 15 and 22 from the depot

abbrev load : ℕ → ℕ → Load
load seats wheelchairs = record { seats = seats; wheelchairs = wheelchairs }

abbrev line : (capacity first second third : Load) → Sheet
line capacity first second third =
    record {
      head = record { places = 4; capacity = capacity; fixed = 0; max_distance = None; max_duration = None; rest = None };
      customers = depot ∷ asking first 0 None None ∷ asking second 0 None None ∷ asking third 0 None None ∷ [];
      legs = record { distances = 0 ∷ 10 ∷ 15 ∷ 22 ∷ 10 ∷ 0 ∷ 5 ∷ 12 ∷ 15 ∷ 5 ∷ 0 ∷ 7 ∷ 22 ∷ 12 ∷ 7 ∷ 0 ∷ []; times = [] };
    }

abbrev tour : List ℕ
tour = 1 ∷ 2 ∷ 3 ∷ []

-- seats for all, and two wheelchair places for four
abbrev ramps : Sheet
ramps = line (load 9 2) (load 1 1) (load 2 1) (load 1 2)

-- ---- the cut

-- without breaks, and with no cost but the distance
abbrev cut : (served ends dropped : List ℕ) → ℕ → Result
cut served ends dropped cost =
    record { served = served; ends = ends; places = map (λ (e : ℕ). 0) ends; dropped = dropped; cost = cost; distance = cost }

cut-by-wheelchairs : split_tw_of Some (lend ramps tour [] [] [] (3 ∷ 3 ∷ 3 ∷ []))
    ≡ gives (cut tour (2 ∷ 3 ∷ []) [] 74)
unfolding answering
cut-by-wheelchairs = refl

split-by-wheelchairs : split_of Some (lend ramps tour [] [] [] (3 ∷ 3 ∷ 3 ∷ []))
    ≡ gives (cut tour (2 ∷ 3 ∷ []) [] 74)
unfolding answering
split-by-wheelchairs = refl

-- one more holds all: the second measure alone decides
one-place-more : split_tw_of Some (lend (line (load 9 4) (load 1 1) (load 2 1) (load 1 2)) tour [] [] [] (3 ∷ 3 ∷ 3 ∷ []))
    ≡ gives (cut tour (3 ∷ []) [] 44)
unfolding answering
one-place-more = refl

-- without a second capacity a second demand fits nowhere, in `split` too
no-second-capacity : (split_tw_of Some (lend (line (of_seats 9) (load 1 0) (load 2 1) (load 1 0)) tour [] [] [] (3 ∷ 3 ∷ 3 ∷ []))
    ≡ gives (cut (1 ∷ 3 ∷ []) (2 ∷ []) (2 ∷ []) 44))
    × (split_of Some (lend (line (of_seats 9) (load 1 0) (load 2 1) (load 1 0)) tour [] [] [] (3 ∷ 3 ∷ 3 ∷ []))
    ≡ gives (cut (1 ∷ 3 ∷ []) (2 ∷ []) (2 ∷ []) 44))
unfolding answering
no-second-capacity = (refl, refl)

-- a second capacity alone changes nothing
second-capacity-alone : split_tw_of Some (lend (line (load 4 7) (of_seats 1) (of_seats 2) (of_seats 1)) tour [] [] [] (3 ∷ 3 ∷ 3 ∷ []))
    ≡ split_tw_of Some (lend (line (of_seats 4) (of_seats 1) (of_seats 2) (of_seats 1)) tour [] [] [] (3 ∷ 3 ∷ 3 ∷ []))
unfolding answering
second-capacity-alone = refl

-- seats to spare are no wheelchair places, nor the other way round
not-the-sum : (split_tw_of Some (lend (line (load 1 9) (load 1 1) (load 2 0) (load 1 1)) tour [] [] [] (3 ∷ 3 ∷ 3 ∷ []))
    ≡ gives (cut (1 ∷ 3 ∷ []) (1 ∷ 2 ∷ []) (2 ∷ []) 64))
    × (split_tw_of Some (lend (line (load 9 1) (load 1 1) (load 1 2) (load 1 0)) tour [] [] [] (3 ∷ 3 ∷ 3 ∷ []))
    ≡ gives (cut (1 ∷ 3 ∷ []) (2 ∷ []) (2 ∷ []) 44))
unfolding answering
not-the-sum = (refl, refl)

-- no evaluation looks at load
evaluated-all-the-same : route_feasible_of Some (lend ramps [] tour [] [] []) ≡ gives true
unfolding answering
evaluated-all-the-same = refl

-- ---- marks: seats, the second load, then the walk

marked-wheelchairs : mark ramps tour (run (1 ∷ []) 0 ∷ run (2 ∷ 3 ∷ []) 0 ∷ []) ≡ wheelchair_overload 2 3 2
unfolding opened
marked-wheelchairs = refl

marked-seats-first : mark (line (load 3 3) (load 1 1) (load 2 1) (load 1 2)) tour (run tour 0 ∷ []) ≡ overload 1 4 3
unfolding opened
marked-seats-first = refl

-- customer 2 shuts at 14 and is reached at 15: the second load comes before the walk
abbrev shut : Sheet
shut =
    record {
      head = record { places = 3; capacity = load 9 2; fixed = 0; max_distance = None; max_duration = None; rest = None };
      customers = depot ∷ asking (load 1 1) 0 None None ∷ asking (load 1 2) 0 (window 0 12) None ∷ [];
      legs = record { distances = 0 ∷ 10 ∷ 12 ∷ 10 ∷ 0 ∷ 5 ∷ 12 ∷ 5 ∷ 0 ∷ []; times = [] };
    }

marked-before-the-walk : mark shut (1 ∷ 2 ∷ []) (run (1 ∷ 2 ∷ []) 0 ∷ []) ≡ wheelchair_overload 1 3 2
unfolding opened
marked-before-the-walk = refl

marked-within : mark ramps tour (run (1 ∷ 2 ∷ []) 0 ∷ run (3 ∷ []) 0 ∷ []) ≡ best
unfolding opened
marked-within = refl

-- ---- visits: both loads, seats before wheelchair places, these before the distance

visits-both-loads : build_route_of Some (lend (record {
  head = record { places = 4; capacity = load 3 2; fixed = 0; max_distance = Some 43; max_duration = None; rest = None };
  customers = ramps.customers;
  legs = ramps.legs;
}) [] tour [] [] (3 ∷ 7 ∷ []))
    ≡ gives (record {
      visits = record { customer = 1; arrival = 10; departure = 10; load = load 1 1 }
          ∷ record { customer = 2; arrival = 15; departure = 15; load = load 3 2 }
          ∷ record { customer = 3; arrival = 22; departure = 22; load = load 4 4 }
          ∷ [];
      totals = record { distance = 44; duration = 44; lateness = 0; pay = 0; place = 0 };
      load = load 4 4;
      start = None;
      violations = over_capacity 4 3 ∷ over_wheelchairs 4 2 ∷ over_distance 44 43 ∷ [];
    })
unfolding answering
visits-both-loads = refl

-- ---- elimination tests both, and moves by seats

barred-by-wheelchairs : eliminate_of Some (lend ramps [] tour (2 ∷ 3 ∷ []) [] (3 ∷ 2 ∷ [])) ≡ gives (record { calls = tour; ends = 2 ∷ 3 ∷ [] })
unfolding answering
barred-by-wheelchairs = refl

taken-within-both : eliminate_of Some (lend (line (load 9 4) (load 1 1) (load 2 1) (load 1 2)) [] tour (2 ∷ 3 ∷ []) [] (3 ∷ 2 ∷ []))
    ≡ gives (record { calls = 1 ∷ 3 ∷ 2 ∷ []; ends = 3 ∷ [] })
unfolding answering
taken-within-both = refl

-- ---- ranges

out_of_range_lem : (refusal_of Some evaluating (lend (line (load 1 1000001) no_load no_load no_load) [] [] [] [] []) ≡ Some 1)
    × (refusal_of Some evaluating (lend (line (load 1 1000000) no_load no_load no_load) [] [] [] [] []) ≡ None)
    × (refusal_of Some evaluating (lend (line no_load no_load (load 0 32768) no_load) [] [] [] [] []) ≡ Some 1)
    × (refusal_of Some evaluating (lend (line no_load no_load (load 0 32767) no_load) [] [] [] [] []) ≡ None)
unfolding answering
out_of_range_lem = (refl, refl, refl, refl)

-- the depot's record has none
depot-wheeled : refusal_of Some evaluating (lend (record { head = ramps.head; customers = asking (load 0 1) 0 None None ∷ ramps.customers; legs = ramps.legs }) [] [] [] [] []) ≡ Some 1
unfolding answering
depot-wheeled = refl

-- ---- the reader: kind 0 behind 2 and behind 7, at most once, and absent it is 0

-- one customer: the words from the capacity on up to the fixed cost, and those of the customer up to the service
abbrev words : (head customer : List Word) → ℕ → List Word
words head customer n =
    word 1 2 ∷ (head ++ (word 3 0 ∷ (customer ++ (word 8 0 ∷ (replicate 4 (word 0xC 3) ++ (word 0xE 1 ∷ word 0xF n ∷ []))))))

abbrev said : (capacity demand : Load) → Sheet
said capacity demand =
    record {
      head = record { places = 2; capacity = capacity; fixed = 0; max_distance = None; max_duration = None; rest = None };
      customers = depot ∷ asking demand 0 None None ∷ [];
      legs = record { distances = replicate 4 3; times = [] };
    }

reads_both : read_words (words (word 2 5 ∷ word 0 4 ∷ []) (word 7 2 ∷ word 0 1 ∷ []) 12) false ≡ sheet (said (load 5 4) (load 2 1)) (1 ∷ [])
unfolding reading
reads_both = refl

reads-each-alone : (read_words (words (word 2 5 ∷ word 0 4 ∷ []) (word 7 2 ∷ []) 11) false ≡ sheet (said (load 5 4) (of_seats 2)) (1 ∷ []))
    × (read_words (words (word 2 5 ∷ []) (word 7 2 ∷ word 0 1 ∷ []) 11) false ≡ sheet (said (of_seats 5) (load 2 1)) (1 ∷ []))
    × (read_words (words (word 2 5 ∷ []) (word 7 2 ∷ word 0 0 ∷ []) 11) false ≡ sheet (said (of_seats 5) (of_seats 2)) (1 ∷ []))
unfolding reading
reads-each-alone = (refl, refl, refl)

-- once, and nowhere else
stands-once : (read_words (words (word 2 5 ∷ word 0 4 ∷ word 0 4 ∷ []) (word 7 2 ∷ []) 12) false ≡ refused_at 11 3)
    × (read_words (words (word 2 5 ∷ []) (word 7 2 ∷ word 0 1 ∷ word 0 1 ∷ []) 12) false ≡ refused_at 11 5)
    × (read_words (word 1 2 ∷ word 0 4 ∷ []) false ≡ refused_at 11 1)
    × (read_words (word 1 2 ∷ word 2 5 ∷ word 3 0 ∷ word 0 4 ∷ []) false ≡ refused_at 11 3)
    × (read_words (word 1 2 ∷ word 2 5 ∷ word 0 4 ∷ word 8 0 ∷ []) false ≡ refused_at 11 3)
    × (read_words (words (word 2 5 ∷ []) (word 7 2 ∷ word 0 1 ∷ word 3 0 ∷ []) 12) false ≡ refused_at 11 5)
    × (read_words (word 1 1 ∷ word 2 0 ∷ word 0 4 ∷ word 8 0 ∷ []) false ≡ refused_at 11 3)
unfolding reading
stands-once = (refl, refl, refl, refl, refl, refl, refl)

-- each has the range of the first
range-of-each : (read_words (words (word 2 5 ∷ word 0 1000000 ∷ []) (word 7 2 ∷ word 0 32767 ∷ []) 12) false ≡ sheet (said (load 5 1000000) (load 2 32767)) (1 ∷ []))
    × (read_words (words (word 2 5 ∷ word 0 1000001 ∷ []) (word 7 2 ∷ []) 11) false ≡ refused_at 1 2)
    × (read_words (words (word 2 5 ∷ []) (word 7 2 ∷ word 0 32768 ∷ []) 11) false ≡ refused_at 1 4)
unfolding reading
range-of-each = (refl, refl, refl)

writes-both : encode [] (said (load 5 4) (load 2 1)) (1 ∷ []) ≡ words (word 2 5 ∷ word 0 4 ∷ []) (word 7 2 ∷ word 0 1 ∷ []) 12
unfolding reading
writes-both = refl

writes-no-zeros : encode [] (said (of_seats 5) (of_seats 2)) (1 ∷ []) ≡ words (word 2 5 ∷ []) (word 7 2 ∷ []) 10
unfolding reading
writes-no-zeros = refl

-- unless they are said
writes-said : encode (false ∷ true ∷ []) (said (of_seats 5) (of_seats 2)) (1 ∷ []) ≡ words (word 2 5 ∷ []) (word 7 2 ∷ word 0 0 ∷ []) 11
unfolding reading
writes-said = refl
