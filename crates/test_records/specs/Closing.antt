-- The lines that close a run. Definitions only.
use Rattle.std.specs.Prelude.{ℕ, ◌+◌, Bool, cond, ◌&&◌, List, [], ◌++◌, eqb}
use Rattle.definitions.specs.Listing.{text, spaced}
use Rattle.test_records.specs.declared.seen.Seen.{Seen}
use Rattle.test_records.specs.declared.seen.Seen.TheVariants.{Alike, Unlike, Noticed, Missed, End, CutShort, TooLong}
use Rattle.test_records.specs.declared.tally.Tally.{Tally}

-- the first answer that is not as it should be, where there is one
abbrev pub first_line : ℕ → List ℕ
first_line first = cond (eqb first 0) [] (text "answer" ++ spaced first ++ text " is not as it should be\n")

-- how many were replayed, how many of them are wrong on purpose, and how many of these were noticed
abbrev pub counts : Tally → List ℕ
counts t =
    (text "replayed" ++ spaced t.answers)
    ++ (text " answers," ++ spaced t.wrong)
    ++ (text " wrong on purpose," ++ spaced t.noticed)
    ++ text " of these noticed,"

-- every wrong one was noticed, and every other one is alike
abbrev pub as_it_should : Tally → Bool
as_it_should t = eqb t.noticed t.wrong && eqb t.unlike 0

abbrev pub others : Tally → List ℕ
others t = cond (as_it_should t) (text " all others alike\n") (spaced t.unlike ++ text " others unlike\n")

abbrev pub count_line : Tally → List ℕ
count_line t = counts t ++ others t

-- a record that is none
abbrev pub stop_line : ℕ → List ℕ → List ℕ
stop_line number fault = text "record" ++ spaced number ++ fault

-- why the run ended
abbrev pub last_line : Tally → Seen → List ℕ
last_line t End = count_line t
last_line t CutShort = stop_line (t.answers + 1) (text " is cut short\n")
last_line t TooLong = stop_line (t.answers + 1) (text " is too long\n")
last_line t Alike = stop_line (t.answers + 1) (text " is one too many\n")
last_line t Unlike = stop_line (t.answers + 1) (text " is one too many\n")
last_line t Noticed = stop_line (t.answers + 1) (text " is one too many\n")
last_line t Missed = stop_line (t.answers + 1) (text " is one too many\n")

abbrev pub closing : Tally → Seen → List ℕ
closing t last = first_line t.first ++ last_line t last
