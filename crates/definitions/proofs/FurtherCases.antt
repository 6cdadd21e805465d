-- What no other case tells apart, on sheets where no two numbers are alike by chance: which table, which list, which figure, which order. Each holds by computation.
-- Assumes nothing.
use Prim.Native.Nat.{ℕ}
use mathlib.Core.Path.{◌≡◌, refl}
use mathlib.Core.Bool.{true, false}
use mathlib.Core.List.{List, [], ◌∷◌, ◌++◌, map}
use Rattle.std.specs.Prelude.{None, Some}
use Rattle.definitions.specs.Load.{of_seats}
use Rattle.definitions.specs.Sheet.{asking, depot, any_soft}
use Rattle.definitions.specs.Run.{legal}
use Rattle.definitions.specs.Visits.{window_shut, break_not_placeable, over_capacity, over_distance, over_duration, over_wheelchairs, violation_number, violation_values}
use Rattle.definitions.specs.Marker.{other_calls, overload, break_too_late, window_missed, break_missing, too_far, too_long, best, dearer, cheaper, wheelchair_overload, verdict_number, verdict_values}
use Rattle.definitions.specs.RunList.{runs_from}
use Rattle.definitions.specs.Sort.{insert, sort}
use Rattle.definitions.specs.Improver.{checks_needed}
use Rattle.definitions.specs.TwoOpt.{tried, tried_all, pass_from, pass, passes, improved}
use Rattle.definitions.specs.Elimination as Elimination
use Rattle.definitions.specs.Elimination.{candidates, first_below, placed_all, emptied, first_emptied, search, searches, eliminated}
use Rattle.definitions.specs.Lent.{whole_sheet, cutting}
use Rattle.definitions.specs.Refusals.{bad_sheet, out_of_range, pairs_fall, closures_differ, any_closed, refusals, refusal_of}
use Rattle.definitions.specs.Answers.{refused, gives, answer, route_feasible_of, route_eval_of, split_tw_of, split_of, build_route_of, mark_of, two_opt_of, eliminate_of, read_customers, read_distances, read_times, read_tour}
use Rattle.definitions.specs.Words.{word, bytes_of}
use Rattle.definitions.specs.Encoding.{encode, body_words}
use Rattle.definitions.specs.Reader.{read_into, read, read_words, walk, fault_at, may_stand, in_range, pair_falls, sheet_of, tour_of, refused_at}
use Rattle.definitions.specs.Listing.{text, digits_in, run_line, plan_text, listing}
use Rattle.definitions.proofs.Bench.{opened, window, totals}
use Rattle.definitions.proofs.FurtherSheets.{lend, crooked, crooked_break, crooked_hard, crooked_mark, near, serving, listed, by_distance, fixed_pays, several, on_aLine, knotted, both_late}

-- what these are computed through besides
unfoldable answering : Unit {0}
unfolding opened answer refusal_of refusals bad_sheet out_of_range pairs_fall closures_differ any_closed any_soft whole_sheet runs_from
answering = tt

unfoldable improving : Unit {0}
unfolding answering checks_needed improved passes pass pass_from tried_all tried eliminated searches search first_emptied emptied placed_all Elimination.placed first_below candidates sort insert
improving = tt

unfoldable reading : Unit {0}
unfolding read_into read read_words walk fault_at may_stand in_range pair_falls sheet_of tour_of encode body_words
reading = tt

unfoldable listed-text : Unit {0}
unfolding opened reading runs_from listing plan_text run_line digits_in
listed-text = tt

-- ---- Run evaluation

-- the lateness and the pay of three calls add up, each by its own penalty times its own lateness
crooked-late : route_eval_of Some (lend crooked [] (1 ∷ 1 ∷ 2 ∷ []) [] [] []) ≡ gives (Some (record { totals = totals 31 17 8 28 0; start = None }))
unfolding answering
crooked-late = refl

-- times, not distances, lead to the break and on from it
crooked-break : route_eval_of Some (lend crooked_break [] (1 ∷ 1 ∷ 2 ∷ []) [] [] []) ≡ gives (Some (record { totals = totals 31 20 7 14 2; start = Some 6 }))
unfolding answering
crooked-break = refl

near-feasible : route_feasible_of Some (lend near [] (1 ∷ 2 ∷ []) [] [] []) ≡ gives false
unfolding answering
near-feasible = refl

near-eval : route_eval_of Some (lend near [] (2 ∷ []) [] [] []) ≡ gives (Some (record { totals = totals 24 24 0 0 0; start = None }))
unfolding answering
near-eval = refl

near-eval-refused : route_eval_of Some (lend near [] (3 ∷ []) [] [] []) ≡ refused 1
unfolding answering
near-eval-refused = refl

crooked-eval-pay : route_eval_of Some (lend crooked [] (0 ∷ []) [] [] []) ≡ refused 1
unfolding answering
crooked-eval-pay = refl

-- no calls; a break place on a sheet without one; 27 over 26; and a legal run
illegal : map (legal near) (record { calls = []; place = 0 } ∷ record { calls = 1 ∷ []; place = 1 } ∷ record { calls = 1 ∷ 2 ∷ []; place = 0 } ∷ record { calls = 1 ∷ []; place = 0 } ∷ [])
    ≡ false ∷ false ∷ false ∷ true ∷ []
unfolding answering
illegal = refl

-- home after earliest; the break taken; a break place beyond the run
illegal-break : map (legal crooked_break) (record { calls = 1 ∷ []; place = 0 } ∷ record { calls = 1 ∷ []; place = 1 } ∷ record { calls = 1 ∷ []; place = 2 } ∷ []) ≡ false ∷ true ∷ false ∷ []
unfolding answering
illegal-break = refl

-- each call has its own service
served-twice : route_eval_of Some (lend serving [] (1 ∷ 1 ∷ []) [] [] []) ≡ gives (Some (record { totals = totals 10 14 0 0 1; start = Some 5 }))
unfolding answering
served-twice = refl

tie-both-late : route_eval_of Some (lend both_late [] (1 ∷ 2 ∷ []) [] [] []) ≡ gives (Some (record { totals = totals 15 17 1 5 1; start = Some 4 }))
unfolding answering
tie-both-late = refl

-- ---- The two cuts

near-split : split_of Some (lend near (1 ∷ 2 ∷ []) [] [] [] (2 ∷ 2 ∷ 2 ∷ [])) ≡ gives (record { served = 1 ∷ 2 ∷ []; ends = 2 ∷ []; dropped = []; cost = 27; distance = 27; places = 0 ∷ [] })
unfolding answering
near-split = refl

near-split-tw : split_tw_of Some (lend near (1 ∷ 2 ∷ []) [] [] [] (2 ∷ 2 ∷ 2 ∷ []))
    ≡ gives (record { served = 1 ∷ 2 ∷ []; ends = 1 ∷ 2 ∷ []; dropped = []; cost = 44; distance = 44; places = 0 ∷ 0 ∷ [] })
unfolding answering
near-split-tw = refl

-- ---- Visits and violations

crooked-visits : build_route_of Some (lend crooked_break [] (2 ∷ 1 ∷ 1 ∷ []) [] [] (3 ∷ 7 ∷ []))
    ≡ gives (record {
      visits = (record { customer = 2; arrival = 7; departure = 12; load = of_seats 2 } ∷ record { customer = 1; arrival = 20; departure = 21; load = of_seats 3 }
          ∷ record { customer = 1; arrival = 22; departure = 23; load = of_seats 4 } ∷ []);
      totals = totals 41 32 36 72 1;
      load = of_seats 4;
      start = Some 7;
      violations = [];
    })
unfolding answering
crooked-visits = refl

-- distance 31 is over 30, and the duration is another number
crooked-too-far : build_route_of Some (lend crooked_hard [] (1 ∷ 1 ∷ 2 ∷ []) [] [] (3 ∷ 7 ∷ []))
    ≡ gives (record {
      visits = (record { customer = 1; arrival = 4; departure = 5; load = of_seats 1 } ∷ record { customer = 1; arrival = 6; departure = 7; load = of_seats 2 }
          ∷ record { customer = 2; arrival = 10; departure = 12; load = of_seats 4 } ∷ []);
      totals = totals 31 17 0 0 0;
      load = of_seats 4;
      start = None;
      violations = (break_not_placeable
          ∷ over_distance 31 30 ∷ []);
    })
unfolding answering
crooked-too-far = refl

crooked-back : build_route_of Some (lend crooked_hard [] (2 ∷ 1 ∷ []) [] [] (2 ∷ 6 ∷ []))
    ≡ gives (record {
      visits = (record { customer = 2; arrival = 7; departure = 12; load = of_seats 2 } ∷ record { customer = 1; arrival = 20; departure = 21; load = of_seats 3 } ∷ []);
      totals = totals 38 30 0 0 1;
      load = of_seats 3;
      start = Some 7;
      violations = (over_distance 38 30 ∷ []);
    })
unfolding answering
crooked-back = refl

near-visits : build_route_of Some (lend near [] (1 ∷ 2 ∷ []) [] [] (2 ∷ 6 ∷ []))
    ≡ gives (record {
      visits = (record { customer = 1; arrival = 10; departure = 10; load = of_seats 2 } ∷ record { customer = 2; arrival = 15; departure = 15; load = of_seats 4 } ∷ []);
      totals = totals 27 27 0 0 0;
      load = of_seats 4;
      start = None;
      violations = (over_distance 27 26 ∷ []);
    })
unfolding answering
near-visits = refl

near-visits-short : build_route_of Some (lend near [] (1 ∷ 2 ∷ []) [] [] (2 ∷ 4 ∷ [])) ≡ refused 13
unfolding answering
near-visits-short = refl

violation-numbers : map violation_number (window_shut 1 2 3 ∷ break_not_placeable ∷ over_capacity 1 2 ∷ over_distance 1 2 ∷ over_duration 1 2 ∷ over_wheelchairs 1 2 ∷ []) ≡ (1 ∷ 2 ∷ 3 ∷ 4 ∷ 5 ∷ 6 ∷ [])
unfolding answering
violation-numbers = refl

violation-values : map violation_values (window_shut 1 2 3 ∷ break_not_placeable ∷ over_capacity 1 2 ∷ over_distance 1 2 ∷ over_duration 1 2 ∷ over_wheelchairs 1 2 ∷ [])
    ≡ ((1 ∷ 2 ∷ 3 ∷ []) ∷ [] ∷ (1 ∷ 2 ∷ []) ∷ (1 ∷ 2 ∷ []) ∷ (1 ∷ 2 ∷ []) ∷ (1 ∷ 2 ∷ []) ∷ [])
unfolding answering
violation-values = refl

-- ---- Marks

-- by the times the bus is there at 8
crooked-break-late : mark_of Some (lend crooked_mark (1 ∷ 2 ∷ []) (1 ∷ 2 ∷ []) (2 ∷ []) (2 ∷ []) []) ≡ gives (break_too_late 1 2 2 8 5)
unfolding answering
crooked-break-late = refl

crooked-dearer : mark_of Some (lend crooked (1 ∷ 2 ∷ []) (1 ∷ 2 ∷ []) (1 ∷ 2 ∷ []) (0 ∷ 0 ∷ []) []) ≡ gives (dearer 29)
unfolding answering
crooked-dearer = refl

verdict-numbers : map verdict_number (other_calls 1 ∷ overload 1 2 3 ∷ break_too_late 1 2 3 4 5 ∷ window_missed 1 2 3 4 5 ∷ break_missing 1 2 3 ∷ too_far 1 2 3 ∷ too_long 1 2 3 ∷ best ∷ dearer 1
    ∷ cheaper 1 ∷ wheelchair_overload 1 2 3 ∷ [])
    ≡ (1 ∷ 2 ∷ 3 ∷ 4 ∷ 5 ∷ 6 ∷ 7 ∷ 8 ∷ 9 ∷ 10 ∷ 11 ∷ [])
unfolding answering
verdict-numbers = refl

verdict-values : map verdict_values (other_calls 1 ∷ overload 1 2 3 ∷ break_too_late 1 2 3 4 5 ∷ window_missed 1 2 3 4 5 ∷ break_missing 1 2 3 ∷ too_far 1 2 3 ∷ too_long 1 2 3 ∷ best ∷ dearer 1
    ∷ cheaper 1 ∷ wheelchair_overload 1 2 3 ∷ [])
    ≡ ((1 ∷ []) ∷ (1 ∷ 2 ∷ 3 ∷ []) ∷ (1 ∷ 2 ∷ 3 ∷ 4 ∷ 5 ∷ []) ∷ (1 ∷ 2 ∷ 3 ∷ 4 ∷ 5 ∷ []) ∷ (1 ∷ 2 ∷ 3 ∷ []) ∷ (1 ∷ 2 ∷ 3 ∷ []) ∷ (1 ∷ 2 ∷ 3 ∷ []) ∷ [] ∷ (1 ∷ []) ∷ (1 ∷ []) ∷ (1 ∷ 2 ∷ 3 ∷ []) ∷ [])
unfolding answering
verdict-values = refl

-- ---- The improvers

turned-by-distance : two_opt_of Some (lend by_distance [] (2 ∷ 1 ∷ 3 ∷ []) [] [] (3 ∷ [])) ≡ gives (record { calls = 1 ∷ 2 ∷ 3 ∷ []; distance = 6 })
unfolding improving
turned-by-distance = refl

turned_on : two_opt_of Some (lend knotted [] (1 ∷ 2 ∷ 3 ∷ 4 ∷ 5 ∷ []) [] [] (5 ∷ [])) ≡ gives (record { calls = 4 ∷ 2 ∷ 1 ∷ 3 ∷ 5 ∷ []; distance = 15 })
unfolding improving
turned_on = refl

emptied-by-distance : eliminate_of Some (lend by_distance [] (1 ∷ 3 ∷ 2 ∷ []) (2 ∷ 3 ∷ []) [] (3 ∷ 2 ∷ [])) ≡ gives (record { calls = 1 ∷ 2 ∷ 3 ∷ []; ends = 3 ∷ [] })
unfolding improving
emptied-by-distance = refl

emptied-for-the-fixed-cost : eliminate_of Some (lend fixed_pays [] (1 ∷ 2 ∷ []) (1 ∷ 2 ∷ []) [] (2 ∷ 2 ∷ [])) ≡ gives (record { calls = 1 ∷ 2 ∷ []; ends = 2 ∷ [] })
unfolding improving
emptied-for-the-fixed-cost = refl

emptied-in-order : eliminate_of Some (lend several [] (3 ∷ 4 ∷ 2 ∷ 1 ∷ []) (1 ∷ 2 ∷ 3 ∷ 4 ∷ []) [] (4 ∷ 4 ∷ [])) ≡ gives (record { calls = 1 ∷ 4 ∷ 2 ∷ 3 ∷ []; ends = 2 ∷ 4 ∷ [] })
unfolding improving
emptied-in-order = refl

-- a run of three calls goes
emptied-three : eliminate_of Some (lend on_aLine [] (1 ∷ 3 ∷ 5 ∷ 4 ∷ 2 ∷ 3 ∷ 1 ∷ []) (3 ∷ 7 ∷ []) [] (7 ∷ 2 ∷ [])) ≡ gives (record { calls = 1 ∷ 3 ∷ 5 ∷ 4 ∷ 2 ∷ 3 ∷ 1 ∷ []; ends = 7 ∷ [] })
unfolding improving
emptied-three = refl

near-eliminate-ends : eliminate_of Some (lend near [] (1 ∷ 2 ∷ []) (1 ∷ []) [] (2 ∷ 1 ∷ [])) ≡ refused 5
unfolding improving
near-eliminate-ends = refl

near-eliminate-short : eliminate_of Some (lend near [] (1 ∷ 2 ∷ []) (1 ∷ 2 ∷ []) [] (2 ∷ 1 ∷ [])) ≡ refused 13
unfolding improving
near-eliminate-short = refl

-- ---- Room

ends-short : refusal_of Some cutting (lend near (1 ∷ 2 ∷ []) [] [] [] (2 ∷ 1 ∷ 2 ∷ [])) ≡ Some 13
unfolding answering
ends-short = refl

served-short : refusal_of Some cutting (lend near (1 ∷ 2 ∷ []) [] [] [] (1 ∷ 2 ∷ 2 ∷ [])) ≡ Some 13
unfolding answering
served-short = refl

-- ---- The reader: the room that it needs, what it writes, and F beyond any count

short-customers : read_into (63 ∷ 4096 ∷ 4096 ∷ 128 ∷ []) [] ≡ refused_at 13 0
unfolding reading
short-customers = refl

short-distances : read_into (64 ∷ 4095 ∷ 4096 ∷ 128 ∷ []) [] ≡ refused_at 13 0
unfolding reading
short-distances = refl

short-times : read_into (64 ∷ 4096 ∷ 4095 ∷ 128 ∷ []) [] ≡ refused_at 13 0
unfolding reading
short-times = refl

front-customers : read_customers (read_words (encode [] crooked (2 ∷ 1 ∷ [])) false) ≡ (depot ∷ asking (of_seats 1) 1 (window 0 3) (Some 2) ∷ asking (of_seats 2) 2 (window 0 6) (Some 5) ∷ [])
unfolding reading
front-customers = refl

front-distances : read_distances (read_words (encode [] crooked (2 ∷ 1 ∷ [])) false) ≡ (1 ∷ 10 ∷ 12 ∷ 20 ∷ 3 ∷ 5 ∷ 13 ∷ 6 ∷ 4 ∷ [])
unfolding reading
front-distances = refl

front-times : read_times (read_words (encode [] crooked (2 ∷ 1 ∷ [])) false) ≡ (2 ∷ 4 ∷ 7 ∷ 9 ∷ 1 ∷ 3 ∷ 5 ∷ 8 ∷ 2 ∷ [])
unfolding reading
front-times = refl

front-tour : read_tour (read_words (encode [] crooked (2 ∷ 1 ∷ [])) false) ≡ (2 ∷ 1 ∷ [])
unfolding reading
front-tour = refl

far-count : read_words (word 1 1 ∷ word 2 0 ∷ word 3 0 ∷ word 0xC 0 ∷ word 0xF 0xFFFFFFF ∷ []) false ≡ refused_at 3 4
unfolding reading
far-count = refl

-- ---- The listing

listing-runs : listing (bytes_of (encode [] listed (1 ∷ 3 ∷ 2 ∷ []))) ≡ text "run 1 rest 1 10\nrun 2 rest 1 12\ndrop 3\ntotal 44 cost 50 served 2 dropped 1\n"
unfolding listed-text
listing-runs = refl
