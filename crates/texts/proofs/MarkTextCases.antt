-- Marks in words: each verdict, each refusal and each bad text, and three of the bench cases. Each holds by computation. Assumes nothing.
use Prim.Native.Nat.{ℕ}
use Prim.Native.Char.{code}
use Prim.Native.String.{String}
use mathlib.Core.Path.{◌≡◌, refl}
use mathlib.Core.List.{List, [], ◌∷◌}
use Rattle.std.specs.Prelude.{None, Some}
use Rattle.definitions.specs.Sheet.{Sheet, depot, asking}
use Rattle.definitions.specs.RunList.{runs_from}
use Rattle.definitions.specs.Lent.{whole_sheet}
use Rattle.definitions.specs.Refusals.{bad_sheet, out_of_range, pairs_fall, closures_differ, any_closed, refusals, refusal_of}
use Rattle.definitions.specs.Answers.{answer}
use Rattle.definitions.specs.Reader.{may_stand, in_range, pair_falls, fault_at, walk, sheet_of, tour_of, read_words, read}
use Rattle.definitions.specs.Listing.{text, digits_in}
use Rattle.definitions.specs.Encoding.{encode, body_words}
use Rattle.definitions.specs.Words.{bytes_of}
use Rattle.definitions.specs.Domain.{no_road}
use Rattle.definitions.proofs.Bench as Bench
use Rattle.definitions.proofs.Bench.{anyone, base, carrying, until, limited, rested, late, full, tour}
use Rattle.texts.specs.CuttingText as Text
use Rattle.texts.specs.CuttingText.{a_customer, a_place, a_start, a_line, a_letter, a_number, more, the_end, step, read_cutting}
use Rattle.texts.specs.Meaning.{meanings, meaning_of}
use Rattle.texts.specs.MarkText.{verdict_words, expected_words, cutting_text, mark_text}

-- what marks are computed through
opened : Unit {0}
unfolding Bench.opened mark_text verdict_words digits_in read_cutting Text.walk step meanings runs_from whole_sheet answer refusal_of refusals bad_sheet out_of_range pairs_fall closures_differ any_closed
    read read_words walk fault_at may_stand in_range pair_falls sheet_of tour_of encode body_words
opened = tt

-- what is printed for a cutting, beside the plan of a sheet's tour
abbrev marked : Sheet → List ℕ → String → List ℕ
marked s calls cutting = cutting_text s calls (read_cutting (text cutting))

-- ---- the bench cases b, l and q

-- capacity 3: both calls in one run are too many
case-b : (marked (carrying 3) tour "run 1\nrun 2\n" ≡ text "best 44\n") × (marked (carrying 3) tour "run 1 2\n" ≡ text "run 1 overloaded: 4 of 3 seats\n")
unfolding opened
case-b = (refl, refl)

-- leg 1 to 0 is 30, limit 27: the planner drops customer 1, though run 1 2 is legal
abbrev one_way : Sheet
one_way = Bench.sheet 4 (0 ∷ 10 ∷ 12 ∷ 30 ∷ 0 ∷ 5 ∷ 12 ∷ 5 ∷ 0 ∷ []) (Some 27) None None anyone

case-l : marked one_way tour "run 1 2\n" ≡ text "other calls at 1: 1 where the planner serves 2\ndrop 1\n"
unfolding opened
case-l = refl

-- the break at the second call
case-q : marked (late 12 13 5) tour "run 1 2 rest 2 15\n" ≡ text "cheaper by 5: 27 against 32\n"
unfolding opened
case-q = refl

-- ---- the other verdicts

dearer : marked base tour "run 1\nrun 2\n" ≡ text "dearer by 17: 44 against 27\n"
unfolding opened
dearer = refl

-- a call too few, one too many, no call at all, and no call that is served
ended : (marked base tour "run 1\n" ≡ text "other calls at 2: none where the planner serves 2\n")
    × (marked base tour "run 1 2\nrun 1\n" ≡ text "other calls at 3: 1 where the planner serves none\n")
    × (marked base tour "" ≡ text "other calls at 1: none where the planner serves 1\n")
    × (marked (carrying 1) tour "" ≡ text "best 0\n")
unfolding opened
ended = (refl, refl, refl, refl)

-- one wheelchair place, and two customers who need it
abbrev one_bay : Sheet
one_bay =
    record {
      head = record { places = 3; capacity = record { seats = 4; wheelchairs = 1 }; fixed = 0; max_distance = None; max_duration = None; rest = None };
      customers = depot ∷ asking (record { seats = 1; wheelchairs = 1 }) 0 None None ∷ asking (record { seats = 1; wheelchairs = 1 }) 0 None None ∷ [];
      legs = record { distances = Bench.legs; times = [] };
    }

wheelchairs : marked one_bay tour "run 1 2\n" ≡ text "run 1 overloaded: 2 of 1 wheelchair places\n"
unfolding opened
wheelchairs = refl

window : marked (until 14 None) (2 ∷ 1 ∷ []) "run 2 1\n" ≡ text "run 1 call 2 customer 1: window shut at 14, ready at 17\n"
unfolding opened
window = refl

late-break : marked (rested 5 10 4) tour "run 1 2 rest 2 15\n" ≡ text "run 1 call 2 customer 2: break could start at 15, latest 10\n"
unfolding opened
late-break = refl

no-break : marked (rested 20 30 4) tour "run 1 2\n" ≡ text "run 1 without its break: home at 27, earliest 20\n"
unfolding opened
no-break = refl

far : marked (limited 26) tour "run 1 2\n" ≡ text "run 1 too far: 27 of 26\n"
unfolding opened
far = refl

-- in the second run
long : marked full (1 ∷ 3 ∷ 2 ∷ []) "run 1\nrun 3 2 rest 1 25\n" ≡ text "run 2 too long: 81 of 80\n"
unfolding opened
long = refl

-- from 1 to 2 there is no road
abbrev closed : Sheet
closed = Bench.sheet 4 (0 ∷ 10 ∷ 12 ∷ 10 ∷ 0 ∷ no_road ∷ 12 ∷ 5 ∷ 0 ∷ []) None None None anyone

no-road : marked closed tour "run 1 2\n" ≡ text "run 1 leg 2: no road\n"
unfolding opened
no-road = refl

-- ---- refusals of the runs, and of the sheet

refused : (marked base tour "run 1 3\n" ≡ text "refused 1: a number out of range, more than 128 calls, or a call that is no customer\n")
    × (marked base tour "run 1 2 rest 1 10\n" ≡ text "refused 5: run ends that fall or miss the number of calls, or in a mark an empty run or a wrong break place\n")
unfolding opened
refused = (refl, refl)

-- whatever the cutting is, a refused sheet is told first
refused-sheet : (mark_text (bytes_of (encode [] base (1 ∷ 2 ∷ 1 ∷ []))) (text "run 1 2\n") ≡ text "refused 21 at 18: a repeated customer, whom an earlier E word has called\n")
    × (mark_text [] (text "no cutting") ≡ text "refused 12 at 0: the words end before F\n")
unfolding opened
refused-sheet = (refl, refl)

-- a number that is no refusal means nothing
no-meaning : meaning_of 6 ≡ []
unfolding opened
no-meaning = refl

-- ---- bad texts

bad : (marked base tour "run 1\n 2\n" ≡ text "cutting line 2 column 2: run, drop, total or # was expected\n")
    × (marked base tour "ride 1\n" ≡ text "cutting line 1 column 2: the letter u was expected\n")
    × (marked base tour "runs 1\n" ≡ text "cutting line 1 column 4: a blank was expected\n")
    × (marked base tour "run 1\n\nrun 12 256\n" ≡ text "cutting line 3 column 10: a customer's number was expected\n")
    × (marked base tour "run 1 rest\n" ≡ text "cutting line 1 column 11: the place of the break was expected\n")
    × (marked base tour "run 1 rest 1\n" ≡ text "cutting line 1 column 13: the start of the break was expected\n")
    × (marked base tour "run 1 -2\n" ≡ text "cutting line 1 column 7: a customer's number, rest or the end of the line was expected\n")
    × (marked base tour "run 1 rest 1 20 3\n" ≡ text "cutting line 1 column 17: the end of the line was expected\n")
unfolding opened
bad = (refl, refl, refl, refl, refl, refl, refl, refl)

-- each thing that may be expected, in words
words : (expected_words a_line ≡ text "run, drop, total or #")
    × (expected_words (a_letter (code "u")) ≡ text "the letter u")
    × (expected_words (a_letter (code " ")) ≡ text "a blank")
    × (expected_words (a_number a_customer) ≡ text "a customer's number")
    × (expected_words (a_number a_place) ≡ text "the place of the break")
    × (expected_words (a_number a_start) ≡ text "the start of the break")
    × (expected_words more ≡ text "a customer's number, rest or the end of the line")
    × (expected_words the_end ≡ text "the end of the line")
words = (refl, refl, refl, refl, refl, refl, refl, refl)
