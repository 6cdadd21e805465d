-- The same by floats, from the lists that are lent. Definitions only.
use Rattle.std.specs.Prelude.{ℕ, ◌≤◌, ◌≡◌, Bool, false, List, length, get_or, drop, Float}
use Rattle.std.specs.Float.Ieee as Ieee
use Rattle.std.specs.Float.{binary64, inf, nan}
use Rattle.definitions.specs.Sheet.{CustomerOf, time_table}
use Rattle.whole.specs.Whole.{fl}
use Rattle.distance.specs.Lookup.{number_f}
use Rattle.evaluation.specs.Records.{Tables, LimitsF}
use Rattle.evaluation.specs.Tables.{record_index, blank}
use Rattle.latest.specs.declared.hours.Hours.{Hours}
use Rattle.latest.specs.declared.hours.Day.{Day}
use Rattle.latest.specs.declared.onward.Times.{Times}
use Rattle.latest.specs.Times.{Arithmetic, HoursOf, DayOf, TimesOf, hours_of, day_of, serves, bounds, fits_f}

abbrev pub floats : Arithmetic Float
floats = record { lt = Ieee.lt; plus = Ieee.add binary64; minus = Ieee.sub binary64; nought = fl 0; one = fl 1; top = inf false }

-- ---- what the code's structs hold

abbrev pub hours_in : Hours → HoursOf Float
hours_in s = record { ready = s.ready; bound = s.bound; service = s.service }

abbrev pub day_in : Day → DayOf Float
day_in d =
    record {
      long = d.long;
      spare = d.spare;
      broken = d.broken;
      earliest = d.earliest;
      latest = d.latest;
      pause = d.pause;
    }

abbrev pub times_in : Times → TimesOf Float
times_in t = record { before = t.before; after = t.after }

-- ---- a sheet

-- the travel time from a to b, where no leg is closed
abbrev pub travel_f : Tables → ℕ → ℕ → Float
travel_f t a b = number_f (time_table t.distances t.times) t.size a b

unfoldable pub hours_f : List (CustomerOf Float) → ℕ → HoursOf Float
hours_f customers c = hours_of floats (get_or customers (record_index c) blank)

abbrev pub day_f : LimitsF → DayOf Float
day_f limits = day_of floats limits.max_duration limits.rest

abbrev pub serves_f : Tables → DayOf Float → TimesOf Float → ℕ → List ℕ → TimesOf Float
serves_f t day from a calls = serves floats (travel_f t) (hours_f t.customers) day from a calls

abbrev pub bounds_f : Tables → DayOf Float → List ℕ → TimesOf Float
bounds_f t day calls = bounds floats (travel_f t) (hours_f t.customers) day calls

-- ---- bounds in two lists

-- the bounds of place k
abbrev pub listed_at : List Float → List Float → ℕ → TimesOf Float
listed_at befores afters k = record { before = get_or befores k nan; after = get_or afters k nan }

-- the lists hold the bounds of a run from call number `from` on
pub record Listed (t : Tables) (day : DayOf Float) (run : List ℕ) (from : ℕ) (befores afters : List Float) : Type 0 where
  pub befores-long : length befores ≡ 129
  pub afters-long : length afters ≡ 129
  pub are : (k : ℕ) → from ≤ k → k ≤ length run → listed_at befores afters k ≡ bounds_f t day (drop k run)

-- c fits there, by the tables
abbrev pub between_f : Tables → DayOf Float → List ℕ → ℕ → ℕ → TimesOf Float → TimesOf Float → Bool
between_f t day run pos c left due = fits_f floats (travel_f t) (hours_f t.customers) day run pos c left due
