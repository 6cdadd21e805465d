-- What the program `mark` prints for the bytes of a sheet and of a cutting. Definitions only.
use Rattle.std.specs.Prelude.{ℕ, ◌-◌, cond, List, [], ◌∷◌, ◌++◌, drop, eqb, Some}
use Prim.Native.Char.{code}
use Prim.Native.String.{String}
use Rattle.definitions.specs.Sheet.{Sheet}
use Rattle.definitions.specs.RunList.{runs_of}
use Rattle.definitions.specs.Cutting.{cutting_cost}
use Rattle.definitions.specs.Drop.{Result, split_tw}
use Rattle.definitions.specs.Marker.{Verdict, other_calls, overload, break_too_late, window_missed, break_missing, too_far, too_long, best, dearer, cheaper, wheelchair_overload, road_closed, verdict_number, with_places}
use Rattle.definitions.specs.Lent.{Lent}
use Rattle.definitions.specs.Reader.{Reading, sheet, refused_at, read}
use Rattle.definitions.specs.Answers.{Answer, refused, gives, mark_of}
use Rattle.definitions.specs.Listing.{text, spaced, end_of_line, drop_lines}
use Rattle.texts.specs.CuttingText.{a_customer, a_place, a_start, Number, Expected, a_line, a_letter, a_number, more, the_end, CuttingRead, runs, bad_at, read_cutting}
use Rattle.texts.specs.Meaning.{meaning_of}

-- words, and a figure behind them
abbrev pub figure : String → ℕ → List ℕ
figure words n = text words ++ spaced n

-- ---- the verdict in words

-- the customer that comes next in a list, or that it has ended
abbrev pub next_text : List ℕ → List ℕ
next_text [] = text " none"
next_text (c ∷ cs) = spaced c

-- the call that a fault is at
abbrev pub call_text : (run place customer : ℕ) → List ℕ
call_text run place customer = figure "run" run ++ figure " call" place ++ figure " customer" customer

-- faults of a run, which the timeline tells in the same words: its load, in one measure, its distance, its duration, a closed leg
abbrev pub overloaded_words : (run load capacity : ℕ) → List ℕ
overloaded_words run load capacity = figure "run" run ++ figure " overloaded:" load ++ figure " of" capacity

abbrev pub too_far_words : (run distance limit : ℕ) → List ℕ
too_far_words run distance limit = figure "run" run ++ figure " too far:" distance ++ figure " of" limit

abbrev pub too_long_words : (run duration limit : ℕ) → List ℕ
too_long_words run duration limit = figure "run" run ++ figure " too long:" duration ++ figure " of" limit

abbrev pub no_road_words : (run leg : ℕ) → List ℕ
no_road_words run leg = figure "run" run ++ figure " leg" leg ++ text ": no road"

-- a verdict on runs of these calls and this cost, beside the planner's plan
unfoldable pub verdict_words : Result → (calls : List ℕ) → (cost : ℕ) → Verdict → List ℕ
verdict_words plan calls cost (other_calls position) =
    figure "other calls at" position ++ text ":" ++ next_text (drop (position - 1) calls)
    ++ text " where the planner serves" ++ next_text (drop (position - 1) plan.served)
verdict_words plan calls cost (overload run load capacity) =
    overloaded_words run load capacity ++ text " seats"
verdict_words plan calls cost (break_too_late run place customer start latest) =
    call_text run place customer ++ figure ": break could start at" start ++ figure ", latest" latest
verdict_words plan calls cost (window_missed run place customer readiness due) =
    call_text run place customer ++ figure ": window shut at" due ++ figure ", ready at" readiness
verdict_words plan calls cost (break_missing run duration earliest) =
    figure "run" run ++ figure " without its break: home at" duration ++ figure ", earliest" earliest
verdict_words plan calls cost (too_far run distance limit) = too_far_words run distance limit
verdict_words plan calls cost (too_long run duration limit) = too_long_words run duration limit
verdict_words plan calls cost best = figure "best" plan.cost
verdict_words plan calls cost (dearer by) =
    figure "dearer by" by ++ figure ":" cost ++ figure " against" plan.cost
verdict_words plan calls cost (cheaper by) =
    figure "cheaper by" by ++ figure ":" cost ++ figure " against" plan.cost
verdict_words plan calls cost (wheelchair_overload run load capacity) =
    overloaded_words run load capacity ++ text " wheelchair places"
verdict_words plan calls cost (road_closed run leg) = no_road_words run leg

-- the planner's drops stand behind other calls, verdict 1, and behind no other: they may be why the calls differ
abbrev pub drops_behind : (tour : List ℕ) → Result → Verdict → List ℕ
drops_behind tour plan v = cond (eqb (verdict_number v) 1) (drop_lines tour plan.dropped) []

abbrev pub verdict_text : (tour : List ℕ) → Result → (calls : List ℕ) → (cost : ℕ) → Verdict → List ℕ
verdict_text tour plan calls cost v = verdict_words plan calls cost v ++ end_of_line ++ drops_behind tour plan v

-- ---- refusals and bad texts

-- what the refusal of this number means, behind a colon
abbrev pub reason : ℕ → List ℕ
reason number = text ": " ++ meaning_of number ++ end_of_line

-- of the sheet: its number and word
abbrev pub sheet_refused : (number word : ℕ) → List ℕ
sheet_refused number word = figure "refused" number ++ figure " at" word ++ reason number

-- of the runs
abbrev pub runs_refused : (number : ℕ) → List ℕ
runs_refused number = figure "refused" number ++ reason number

abbrev pub number_words : Number → List ℕ
number_words a_customer = text "a customer's number"
number_words a_place = text "the place of the break"
number_words a_start = text "the start of the break"

-- the blank behind a word, or a letter of it
abbrev pub letter_words : ℕ → List ℕ
letter_words l = cond (eqb l (code " ")) (text "a blank") (text "the letter " ++ l ∷ [])

abbrev pub expected_words : Expected → List ℕ
expected_words a_line = text "run, drop, total or #"
expected_words (a_letter l) = letter_words l
expected_words (a_number k) = number_words k
expected_words more = text "a customer's number, rest or the end of the line"
expected_words the_end = text "the end of the line"

-- the first bad byte of a cutting, and what could have stood there
abbrev pub bad_text : (line column : ℕ) → Expected → List ℕ
bad_text line column e =
    figure "cutting line" line ++ figure " column" column ++ text ": " ++ expected_words e ++ text " was expected" ++ end_of_line

-- ---- the mark of a cutting, given as text, on a sheet

-- what the marker is lent with these runs
abbrev pub lent_runs : Sheet → (tour calls ends places : List ℕ) → Lent ℕ
lent_runs s tour calls ends places = record { sheet = s; tour = tour; calls = calls; ends = ends; breaks = places; rooms = [] }

-- the cost of the runs of these calls, ends and break places
abbrev pub runs_cost : Sheet → (calls ends places : List ℕ) → ℕ
runs_cost s calls ends places = cutting_cost s (with_places (runs_of calls ends) places)

abbrev pub answer_text : (tour : List ℕ) → Result → (calls : List ℕ) → (cost : ℕ) → Answer Verdict → List ℕ
answer_text tour plan calls cost (refused number) = runs_refused number
answer_text tour plan calls cost (gives v) = verdict_text tour plan calls cost v

-- the mark is that by the clock, as the listing's plan is
abbrev pub cutting_text : Sheet → (tour : List ℕ) → CuttingRead → List ℕ
cutting_text s tour (runs calls ends places) =
    answer_text tour (split_tw s tour) calls (runs_cost s calls ends places) (mark_of Some (lent_runs s tour calls ends places))
cutting_text s tour (bad_at line column e) = bad_text line column e

abbrev pub sheet_text : Reading → (cutting : List ℕ) → List ℕ
sheet_text (sheet s tour) cutting = cutting_text s tour (read_cutting cutting)
sheet_text (refused_at number word) cutting = sheet_refused number word

-- what is printed for the bytes of a sheet and of a cutting
unfoldable pub mark_text : (sheet_bytes cutting_bytes : List ℕ) → List ℕ
mark_text sheet_bytes cutting_bytes = sheet_text (read sheet_bytes) cutting_bytes
