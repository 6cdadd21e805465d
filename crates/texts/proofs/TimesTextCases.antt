-- Timelines in words: with a break and without, a window kept and missed, each violation, a closed leg, a refusal and a bad text. Each holds by computation. Assumes
-- nothing.
use Prim.Native.Nat.{ℕ}
use Prim.Native.String.{String}
use mathlib.Core.Path.{◌≡◌, refl}
use mathlib.Core.List.{List, [], ◌∷◌, ◌++◌}
use Rattle.std.specs.Prelude.{None, Some}
use Rattle.definitions.specs.Sheet.{Sheet, depot, asking}
use Rattle.definitions.specs.RunList.{runs_from}
use Rattle.definitions.specs.Refusals.{bad_sheet, out_of_range, pairs_fall, closures_differ, any_closed, refusals, refusal_of}
use Rattle.definitions.specs.Reader.{may_stand, in_range, pair_falls, fault_at, walk, sheet_of, tour_of, read_words, read}
use Rattle.definitions.specs.Listing.{text, digits_in}
use Rattle.definitions.specs.Encoding.{encode, body_words}
use Rattle.definitions.specs.Words.{bytes_of}
use Rattle.definitions.specs.Domain.{no_road}
use Rattle.definitions.specs.Timeline.{stops_from, open_timeline, timeline}
use Rattle.definitions.proofs.Bench as Bench
use Rattle.definitions.proofs.Bench.{anyone, base, carrying, until, limited, rested, late, tour}
use Rattle.texts.specs.CuttingText as Text
use Rattle.texts.specs.CuttingText.{step, read_cutting}
use Rattle.texts.specs.Meaning.{meanings}
use Rattle.texts.specs.TimesText.{stop_line, totals_line, violation_line, run_lines, timeline_text, runs_times, times_text}

-- what timelines are computed through
opened : Unit {0}
unfolding Bench.opened times_text timeline_text run_lines stop_line totals_line violation_line timeline open_timeline stops_from digits_in read_cutting Text.walk step meanings runs_from
    refusal_of refusals bad_sheet out_of_range pairs_fall closures_differ any_closed read read_words walk fault_at may_stand in_range pair_falls sheet_of tour_of encode body_words
opened = tt

-- what is printed for a cutting of a sheet
abbrev timed : Sheet → String → List ℕ
timed s cutting = runs_times s tour (read_cutting (text cutting))

-- ---- calls

-- two runs of one call each
plain : timed base "run 1\nrun 2\n" ≡
    text "run 1 call 1 customer 1: arrive 10, serve 10, leave 10, seats 2, wheelchairs 0\nrun 1: home at 20, distance 20, lateness 0, pay 0\n"
    ++ text "run 2 call 1 customer 2: arrive 12, serve 12, leave 12, seats 2, wheelchairs 0\nrun 2: home at 24, distance 24, lateness 0, pay 0\n"
unfolding opened
plain = refl

-- the break at the second call
broken : timed (late 12 13 5) "run 1 2 rest 2 15\n" ≡
    text "run 1 call 1 customer 1: arrive 10, serve 12, leave 12, seats 2, wheelchairs 0, window 12 to 13, slack 1\n"
    ++ text "run 1 call 2 customer 2: arrive 17, break 17 to 21, serve 21, leave 21, seats 4, wheelchairs 0\nrun 1: home at 33, distance 27, lateness 0, pay 0\n"
unfolding opened
broken = refl

-- the break at the first call makes it late, which is paid for
late-call : timed (late 12 13 5) "run 1 2 rest 1 10\n" ≡
    text "run 1 call 1 customer 1: arrive 10, break 10 to 14, serve 14, leave 14, seats 2, wheelchairs 0, window 12 to 13, late 1\n"
    ++ text "run 1 call 2 customer 2: arrive 19, serve 19, leave 19, seats 4, wheelchairs 0\nrun 1: home at 31, distance 27, lateness 1, pay 5\n"
unfolding opened
late-call = refl

-- case m: there at 15, the break from 20 to 24, then served
case-m : timed (rested 20 30 4) "run 1 2 rest 2 20\n" ≡
    text "run 1 call 1 customer 1: arrive 10, serve 10, leave 10, seats 2, wheelchairs 0\n"
    ++ text "run 1 call 2 customer 2: arrive 15, break 20 to 24, serve 24, leave 24, seats 4, wheelchairs 0\nrun 1: home at 36, distance 27, lateness 0, pay 0\n"
unfolding opened
case-m = refl

-- ---- violations, behind the calls and the totals of run 1 2

-- its calls, with nothing of note
abbrev calls : List ℕ
calls =
    text "run 1 call 1 customer 1: arrive 10, serve 10, leave 10, seats 2, wheelchairs 0\n"
    ++ text "run 1 call 2 customer 2: arrive 15, serve 15, leave 15, seats 4, wheelchairs 0\nrun 1: home at 27, distance 27, lateness 0, pay 0\n"

-- a break that would start past latest is not taken, and left out of the times; nor is one that has no place
unbroken : (timed (rested 5 10 4) "run 1 2 rest 2 15\n" ≡ calls ++ text "run 1 without its break\n") × (timed (rested 20 30 4) "run 1 2\n" ≡ calls ++ text "run 1 without its break\n")
unfolding opened
unbroken = (refl, refl)

shut : timed (until 14 None) "run 2 1\n" ≡
    text "run 1 call 1 customer 2: arrive 12, serve 12, leave 12, seats 2, wheelchairs 0\n"
    ++ text "run 1 call 2 customer 1: arrive 17, serve 17, leave 17, seats 4, wheelchairs 0, window 0 to 14, late 3\nrun 1: home at 27, distance 27, lateness 0, pay 0\n"
    ++ text "run 1 customer 1: window shut at 14, ready at 17\n"
unfolding opened
shut = refl

limits : (timed (carrying 3) "run 1 2\n" ≡ calls ++ text "run 1 overloaded: 4 of 3 seats\n")
    × (timed (limited 26) "run 1 2\n" ≡ calls ++ text "run 1 too far: 27 of 26\n")
    × (timed (Bench.sheet 4 Bench.legs None (Some 26) None anyone) "run 1 2\n" ≡ calls ++ text "run 1 too long: 27 of 26\n")
unfolding opened
limits = (refl, refl, refl)

-- one wheelchair place, and two customers who need it
abbrev one_bay : Sheet
one_bay =
    record {
      head = record { places = 3; capacity = record { seats = 4; wheelchairs = 1 }; fixed = 0; max_distance = None; max_duration = None; rest = None };
      customers = depot ∷ asking (record { seats = 1; wheelchairs = 1 }) 0 None None ∷ asking (record { seats = 1; wheelchairs = 1 }) 0 None None ∷ [];
      legs = record { distances = Bench.legs; times = [] };
    }

wheelchairs : timed one_bay "run 1 2\n" ≡
    text "run 1 call 1 customer 1: arrive 10, serve 10, leave 10, seats 1, wheelchairs 1\n"
    ++ text "run 1 call 2 customer 2: arrive 15, serve 15, leave 15, seats 2, wheelchairs 2\nrun 1: home at 27, distance 27, lateness 0, pay 0\n"
    ++ text "run 1 overloaded: 2 of 1 wheelchair places\n"
unfolding opened
wheelchairs = refl

-- from 1 to 2 there is no road: of that run nothing else is told
closed : timed (Bench.sheet 4 (0 ∷ 10 ∷ 12 ∷ 10 ∷ 0 ∷ no_road ∷ 12 ∷ 5 ∷ 0 ∷ []) None None None anyone) "run 1 2\n" ≡ text "run 1 leg 2: no road\n"
unfolding opened
closed = refl

-- ---- no timeline: refused as the mark is, or a bad text

untold : (timed base "" ≡ [])
    × (timed base "run 1 3\n" ≡ text "refused 1: a number out of range, more than 128 calls, or a call that is no customer\n")
    × (timed base "run 1\n 2\n" ≡ text "cutting line 2 column 2: run, drop, total or # was expected\n")
    × (times_text (bytes_of (encode [] base (1 ∷ 2 ∷ 1 ∷ []))) (text "run 1 2\n") ≡ text "refused 21 at 18: a repeated customer, whom an earlier E word has called\n")
unfolding opened
untold = (refl, refl, refl, refl)

-- from bytes to bytes
whole : times_text (bytes_of (encode [] base tour)) (text "run 1 2\n") ≡ calls
unfolding opened
whole = refl
