-- The answer of a call that tells the timeline of a run: refused by number, or the timeline in rows of numbers with what it comes to.
-- Definitions only.
use Rattle.std.specs.Prelude.{ℕ, ◌≤◌, ◌≡◌, Bool, cond, List, [], ◌∷◌, map, length, Float, Option, None, Some}
use Rattle.basics.specs.Options.{present, value_or}
use Rattle.definitions.specs.Sheet.{Sheet}
use Rattle.definitions.specs.Refusal.{refusal, first_fit}
use Rattle.definitions.specs.Refusals.{bad_run_list, break_beyond}
use Rattle.definitions.specs.Room.{written}
use Rattle.definitions.specs.Answers.{Answer, refused, gives, front, unless_refused}
use Rattle.definitions.specs.Reader.{sheet, read}
use Rattle.definitions.specs.Timeline as Whole
use Rattle.definitions.specs.Timeline.{rest_of, timeline}
use Rattle.whole.specs.Whole.{fl}
use Rattle.models.specs.declared.head.Head.{Head}
use Rattle.models.specs.Load.{space_of}
use Rattle.evaluation.specs.Records.{Tables, limits_of}
use Rattle.timeline.specs.declared.timeline.Timeline.{Timeline}
use Rattle.timeline.specs.Timing.{TimelineF, timeline_f}
use Rattle.bytes_visits.specs.declared.told.Told.{Told}
use Rattle.bytes_visits.specs.declared.run.Visiting.{Visiting}
use Rattle.bytes_visits.specs.declared.run.Visiting.TheVariants as Visitings
use Rattle.bytes_visits.specs.Rows.{rows_to, times_of, loads_of, numbers_of, figures_of, times_row_f, loads_row_f, number_row_f, figures_row_f}

-- ---- the lists that are lent

-- three times and two loads for each call, a number and three figures for each violation
pub record Lists : Type 0 where
  pub times : List Float
  pub loads : List ℕ
  pub numbers : List ℕ
  pub figures : List Float

abbrev pub lists : List Float → List ℕ → List ℕ → List Float → Lists
lists times loads numbers figures = record { times = times; loads = loads; numbers = numbers; figures = figures }

-- each has room for the longest run
pub record Roomy (l : Lists) : Type 0 where
  pub times-room : 384 ≤ length l.times
  pub loads-room : 256 ≤ length l.loads
  pub numbers-room : 132 ≤ length l.numbers
  pub figures-room : 396 ≤ length l.figures

-- ---- refused

-- A run out of range, then a break place beyond it, or on a sheet without a break. Of an accepted sheet no other refusal fits.
unfoldable pub run_refusal : (places : ℕ) (rest : Bool) (run : List ℕ) (place : ℕ) → Option ℕ
run_refusal places rest run place =
    first_fit (refusal 1 (bad_run_list places run) ∷ refusal 5 (break_beyond rest 0 (length run ∷ []) (place ∷ [])) ∷ [])

-- ---- in whole numbers

-- the timeline of the run on the sheet, with its break at this place
unfoldable pub told_on : Sheet → (run : List ℕ) (place : ℕ) → Answer Whole.Timeline
told_on s run place =
    unless_refused (run_refusal s.head.places (present s.head.rest) run place) (timeline s (record { calls = run; place = place }))

-- what it comes to: the break's call, or 0, and its start, or 0, where it is taken
abbrev pub told_of : Whole.Timeline → Told
told_of t =
    record {
      visits = length t.stops;
      violations = length t.violations;
      place = cond (present (rest_of t.stops)) t.totals.place 0;
      start = fl (value_or 0 (rest_of t.stops));
      distance = fl t.totals.distance;
      duration = fl t.totals.duration;
      lateness = fl t.totals.lateness;
      lateness_cost = fl t.totals.pay;
    }

abbrev pub visiting_in : Answer Whole.Timeline → Visiting
visiting_in (refused number) = Visitings.Refused number
visiting_in (gives t) = Visitings.Told (told_of t)

-- the code's answer, and the lent lists as they are left
pub record ToldIn (a : Answer Whole.Timeline) (old : Lists) (r : Visiting) (new : Lists) : Type 0 where
  pub answer : r ≡ visiting_in a
  pub times-left : new.times ≡ written (map fl (front times_of a)) old.times
  pub loads-left : new.loads ≡ written (front loads_of a) old.loads
  pub numbers-left : new.numbers ≡ written (front numbers_of a) old.numbers
  pub figures-left : new.figures ≡ written (map fl (front figures_of a)) old.figures

-- that, on the sheet that the bytes are
abbrev pub SheetTold : (bytes run : List ℕ) (place : ℕ) (old : Lists) (r : Visiting) (new : Lists) → Type 0
SheetTold bytes run place old r new = (s : Sheet) (tour : List ℕ) → read bytes ≡ sheet s tour → ToldIn (told_on s run place) old r new

-- ---- on floats, as the code has it

abbrev pub taken_f : Option Float → ℕ → ℕ
taken_f None place = 0
taken_f (Some time) place = place

abbrev pub began_f : Option Float → Float
began_f None = fl 0
began_f (Some time) = time

abbrev pub told_f : (visits violations : ℕ) → TimelineF → Told
told_f visits violations x =
    record {
      visits = visits;
      violations = violations;
      place = taken_f x.route.start x.route.totals.place;
      start = began_f x.route.start;
      distance = x.route.totals.distance;
      duration = x.route.totals.duration;
      lateness = x.route.totals.lateness;
      lateness_cost = x.route.totals.cost;
    }

-- the rows of the code's timeline at the front of the lists
pub record LineWritten (x : Timeline) (old new : Lists) : Type 0 where
  pub times-are : new.times ≡ written (rows_to (times_row_f x.run.visits x.begins) x.run.count) old.times
  pub loads-are : new.loads ≡ written (rows_to (loads_row_f x.run.visits) x.run.count) old.loads
  pub numbers-are : new.numbers ≡ written (rows_to (number_row_f x.run.violations) x.run.found) old.numbers
  pub figures-are : new.figures ≡ written (rows_to (figures_row_f x.run.violations) x.run.found) old.figures

-- those of a timeline on floats
pub record RowsWritten (x : TimelineF) (old new : Lists) : Type 0 where
  pub times-are : new.times ≡ written (rows_to (times_row_f x.route.visits x.begins) (length x.route.visits)) old.times
  pub loads-are : new.loads ≡ written (rows_to (loads_row_f x.route.visits) (length x.route.visits)) old.loads
  pub numbers-are : new.numbers ≡ written (rows_to (number_row_f x.route.violations) (length x.route.violations)) old.numbers
  pub figures-are : new.figures ≡ written (rows_to (figures_row_f x.route.violations) (length x.route.violations)) old.figures

-- refused with nothing written, or told
abbrev pub TimedBy : Option ℕ → TimelineF → (old : Lists) (r : Visiting) (new : Lists) → Type 0
TimedBy (Some number) x old r new = (r ≡ Visitings.Refused number) × (new ≡ old)
TimedBy None x old r new =
    (r ≡ Visitings.Told (told_f (length x.route.visits) (length x.route.violations) x)) × RowsWritten x old new

abbrev pub RunTimed : Tables → Head → (run : List ℕ) (place : ℕ) (old : Lists) (r : Visiting) (new : Lists) → Type 0
RunTimed t head run place old r new =
    let limits = limits_of head.limits in
    let refusal = run_refusal head.places (present limits.rest) run place in
    TimedBy refusal (timeline_f t (space_of head.capacity) limits place run) old r new
