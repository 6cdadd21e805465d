-- A verdict of the code in words, each float as the whole number that a line shows. Definitions only.
use Rattle.std.specs.Prelude.{ℕ, ◌-◌, cond, List, [], ◌++◌, drop, eqb, Float}
use Rattle.std.specs.Float.Ieee as Ieee
use Rattle.std.specs.Float.{binary64}
use Rattle.definitions.specs.Listing.{text, end_of_line, drop_lines}
use Rattle.texts.specs.MarkText.{figure, next_text, call_text}
use Rattle.listing_lines.specs.Number.{whole_part}
use Rattle.marker.specs.declared.verdict.Verdict.{Verdict}
use Rattle.marker.specs.declared.verdict.Verdict.TheVariants.{OtherCalls, Overload, BreakTooLate, WindowMissed, BreakMissing, TooFar, TooLong, Best, Dearer, Cheaper, WheelchairOverload, RoadClosed}
use Rattle.marker.specs.Figures.{number_in}

-- a verdict on runs of these calls, beside the customers that the planner serves and its cost
unfoldable pub words_f : (served : List ℕ) → (planned : Float) → (calls : List ℕ) → Verdict → List ℕ
words_f served planned calls (OtherCalls position) =
    figure "other calls at" position ++ text ":" ++ next_text (drop (position - 1) calls)
    ++ text " where the planner serves" ++ next_text (drop (position - 1) served)
words_f served planned calls (Overload run load capacity) =
    figure "run" run ++ figure " overloaded:" load ++ figure " of" capacity ++ text " seats"
words_f served planned calls (BreakTooLate run place customer start latest) =
    call_text run place customer ++ figure ": break could start at" (whole_part start) ++ figure ", latest" (whole_part latest)
words_f served planned calls (WindowMissed run place customer readiness due) =
    call_text run place customer ++ figure ": window shut at" (whole_part due) ++ figure ", ready at" (whole_part readiness)
words_f served planned calls (BreakMissing run duration earliest) =
    figure "run" run ++ figure " without its break: home at" (whole_part duration) ++ figure ", earliest" (whole_part earliest)
words_f served planned calls (TooFar run distance max) =
    figure "run" run ++ figure " too far:" (whole_part distance) ++ figure " of" (whole_part max)
words_f served planned calls (TooLong run duration max) =
    figure "run" run ++ figure " too long:" (whole_part duration) ++ figure " of" (whole_part max)
words_f served planned calls Best = figure "best" (whole_part planned)
words_f served planned calls (Dearer by) =
    figure "dearer by" (whole_part by) ++ figure ":" (whole_part (Ieee.add binary64 planned by)) ++ figure " against" (whole_part planned)
words_f served planned calls (Cheaper by) =
    figure "cheaper by" (whole_part by) ++ figure ":" (whole_part (Ieee.sub binary64 planned by)) ++ figure " against" (whole_part planned)
words_f served planned calls (WheelchairOverload run load capacity) =
    figure "run" run ++ figure " overloaded:" load ++ figure " of" capacity ++ text " wheelchair places"
words_f served planned calls (RoadClosed run leg) = figure "run" run ++ figure " leg" leg ++ text ": no road"

-- the dropped calls, behind other calls alone
abbrev pub drops_f : (tour dropped : List ℕ) → Verdict → List ℕ
drops_f tour dropped v = cond (eqb (number_in v) 1) (drop_lines tour dropped) []

abbrev pub verdict_text_f : (tour served dropped : List ℕ) → (planned : Float) → (calls : List ℕ) → Verdict → List ℕ
verdict_text_f tour served dropped planned calls v = words_f served planned calls v ++ end_of_line ++ drops_f tour dropped v
