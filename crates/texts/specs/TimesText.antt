-- What the program `timetable` prints for the bytes of a sheet and of a cutting: the timeline of each run. Definitions only.
use Rattle.std.specs.Prelude.{ℕ, suc, ◌+◌, ◌-◌, cond, List, [], ◌∷◌, ◌++◌, map, leb, Option, None, Some, option_map}
use Rattle.basics.specs.Lists.{is_empty}
use Rattle.basics.specs.Options.{◌>>=◌}
use Rattle.definitions.specs.Load.{Load}
use Rattle.definitions.specs.Sheet.{Window, Break, Sheet, customer}
use Rattle.definitions.specs.Run.{Run, Totals}
use Rattle.definitions.specs.RunList.{runs_of}
use Rattle.definitions.specs.Visits.{Violation, window_shut, break_not_placeable, over_capacity, over_distance, over_duration, over_wheelchairs, closed_leg}
use Rattle.definitions.specs.Timeline.{Stop, Timeline, timeline}
use Rattle.definitions.specs.Marker.{with_places}
use Rattle.definitions.specs.Lent.{marking}
use Rattle.definitions.specs.Refusals.{refusal_of}
use Rattle.definitions.specs.Reader.{Reading, sheet, refused_at, read}
use Rattle.definitions.specs.Answers.{Answer, refused, gives, unless_refused}
use Rattle.definitions.specs.Listing.{text, end_of_line}
use Rattle.texts.specs.CuttingText.{CuttingRead, runs, bad_at, read_cutting}
use Rattle.texts.specs.MarkText.{figure, call_text, overloaded_words, too_far_words, too_long_words, no_road_words, sheet_refused, runs_refused, bad_text, lent_runs}

-- ---- a call

-- a break that is taken: from when to when
pub record Pause : Type 0 where
  pub from : ℕ
  pub until : ℕ

-- what the line of a call tells
pub record Told : Type 0 where
  pub customer : ℕ
  pub arrival : ℕ
  -- the break, if it is taken here
  pub rest : Option Pause
  -- the service
  pub begin : ℕ
  pub departure : ℕ
  -- after the call
  pub load : Load
  pub window : Option Window

abbrev pub rest_words : Option Pause → List ℕ
rest_words None = []
rest_words (Some p) = figure " break" p.from ++ figure " to" p.until ++ text ","

-- how long before due the service starts, or how long after it
abbrev pub slack_words : Window → ℕ → List ℕ
slack_words w begin = cond (leb begin w.due) (figure ", slack" (w.due - begin)) (figure ", late" (begin - w.due))

-- the window, and the end of the line
abbrev pub window_words : Option Window → ℕ → List ℕ
window_words None begin = end_of_line
window_words (Some w) begin = figure ", window" w.ready ++ figure " to" w.due ++ slack_words w begin ++ end_of_line

-- call number k of run n
unfoldable pub stop_line : (n k : ℕ) → Told → List ℕ
stop_line n k x =
    call_text n k x.customer
    ++ figure ": arrive" x.arrival
    ++ text ","
    ++ rest_words x.rest
    ++ figure " serve" x.begin
    ++ figure ", leave" x.departure
    ++ figure ", seats" x.load.seats
    ++ figure ", wheelchairs" x.load.wheelchairs
    ++ window_words x.window x.begin

abbrev pub stop_lines : (n k : ℕ) → List Told → List ℕ
stop_lines n k [] = []
stop_lines n k (x ∷ xs) = stop_line n k x ++ stop_lines n (suc k) xs

-- ---- a run

unfoldable pub totals_line : ℕ → Totals → List ℕ
totals_line n t =
    figure "run" n
    ++ figure ": home at" t.duration
    ++ figure ", distance" t.distance
    ++ figure ", lateness" t.lateness
    ++ figure ", pay" t.pay
    ++ end_of_line

-- What run n violates. The figures of loads and limits are told as the mark tells them.
unfoldable pub violation_line : ℕ → Violation → List ℕ
violation_line n (window_shut customer readiness due) =
    figure "run" n ++ figure " customer" customer ++ figure ": window shut at" due ++ figure ", ready at" readiness ++ end_of_line
violation_line n break_not_placeable = figure "run" n ++ text " without its break" ++ end_of_line
violation_line n (over_capacity load capacity) = overloaded_words n load capacity ++ text " seats" ++ end_of_line
violation_line n (over_distance distance limit) = too_far_words n distance limit ++ end_of_line
violation_line n (over_duration duration limit) = too_long_words n duration limit ++ end_of_line
violation_line n (over_wheelchairs load capacity) = overloaded_words n load capacity ++ text " wheelchair places" ++ end_of_line
violation_line n (closed_leg leg) = no_road_words n leg ++ end_of_line

abbrev pub violation_lines : ℕ → List Violation → List ℕ
violation_lines n [] = []
violation_lines n (v ∷ vs) = violation_line n v ++ violation_lines n vs

-- Its calls, what it comes to, and what it violates. A run with a closed leg is not driven: it has no calls here, and comes to nothing.
unfoldable pub run_lines : ℕ → List Told → Totals → List Violation → List ℕ
run_lines n stops totals violations =
    stop_lines n 1 stops ++ cond (is_empty stops) [] (totals_line n totals) ++ violation_lines n violations

-- ---- the timeline of a run

-- the sheet's break, that starts then
abbrev pub pause_of : Option Break → Option ℕ → Option Pause
pause_of rest start = rest >>= λ b. option_map (λ t. record { from = t; until = t + b.duration }) start

abbrev pub told_of : Sheet → Stop → Told
told_of s x =
    record {
      customer = x.visit.customer;
      arrival = x.visit.arrival;
      rest = pause_of s.head.rest x.rest;
      begin = x.begin;
      departure = x.visit.departure;
      load = x.visit.load;
      window = (customer s x.visit.customer).window;
    }

unfoldable pub timeline_text : Sheet → ℕ → Timeline → List ℕ
timeline_text s n t = run_lines n (map (told_of s) t.stops) t.totals t.violations

-- ---- the runs of a cutting, given as text, on a sheet

-- the runs from number n on
abbrev pub timelines_text : Sheet → ℕ → List Run → List ℕ
timelines_text s n [] = []
timelines_text s n (r ∷ rs) = timeline_text s n (timeline s r) ++ timelines_text s (suc n) rs

abbrev pub times_answer : Answer (List ℕ) → List ℕ
times_answer (refused number) = runs_refused number
times_answer (gives lines) = lines

-- refused as the mark of the same runs is
abbrev pub runs_times : Sheet → (tour : List ℕ) → CuttingRead → List ℕ
runs_times s tour (runs calls ends places) =
    times_answer
    (unless_refused (refusal_of Some marking (lent_runs s tour calls ends places)) (timelines_text s 1 (with_places (runs_of calls ends) places)))
runs_times s tour (bad_at line column e) = bad_text line column e

abbrev pub sheet_times : Reading → (cutting : List ℕ) → List ℕ
sheet_times (sheet s tour) cutting = runs_times s tour (read_cutting cutting)
sheet_times (refused_at number word) cutting = sheet_refused number word

unfoldable pub times_text : (sheet_bytes cutting_bytes : List ℕ) → List ℕ
times_text sheet_bytes cutting_bytes = sheet_times (read sheet_bytes) cutting_bytes
