-- The bound of each kind of sum of a plan on a sheet within the limits.
use Rattle.std.specs.Prelude.{ℕ, ◌+◌, ◌*◌, ◌≤◌, None, Some}
use Rattle.basics.specs.Options.{Holds}
use Rattle.definitions.specs.Domain.{most_calls, most_number, most_penalty}
use Rattle.definitions.specs.Window.{Entry}
use Rattle.definitions.specs.Run.{Label, start, Totals}
use Rattle.definitions.specs.Clock.{Clock}
use Rattle.whole.specs.Whole.{limit}

-- ---- the bounds

-- what a call adds to the clock at the most: the way to it, the break, and service
abbrev pub step : ℕ
step = 3 * most_number

-- no readiness is past this in a run, and so no call is later than this
abbrev pub most_late : ℕ
most_late = most_calls * step

-- the lateness pay of a call
abbrev pub most_pay : ℕ
most_pay = most_penalty * most_late

-- ---- one call

-- a label after k calls
pub record Early (k : ℕ) (l : Label) : Type 0 where
  pub time-most : l.time ≤ k * step
  pub lateness-most : l.lateness ≤ k * most_late
  pub pay-most : l.pay ≤ k * most_pay

-- when a call is reached after k others at the latest, and when it is ready
abbrev pub arrive_by : ℕ → ℕ
arrive_by k = k * step + most_number

abbrev pub ready_by : ℕ → ℕ
ready_by k = k * step + 2 * most_number

-- a call after k others: when its service starts, how late it is, and what that costs
pub record SmallEntry (k : ℕ) (e : Entry) : Type 0 where
  pub start-most : e.start ≤ ready_by k
  pub late-most : e.lateness ≤ most_late
  pub due-most : e.pay ≤ most_pay

-- both labels of the clock after k calls
pub record EarlyClock (k : ℕ) (x : Clock) : Type 0 where
  pub before-early : Holds (Early k) x.before
  pub after-early : Holds (Early k) x.after

-- before the first call
abbrev pub begun : Clock
begun = record { before = Some start; after = None }

-- what a run of n calls comes to
pub record SmallTotals (n : ℕ) (t : Totals) : Type 0 where
  pub distance_most : t.distance ≤ (n + 1) * most_number
  pub duration-most : t.duration ≤ n * step + most_number
  pub lateness-most : t.lateness ≤ n * most_late
  pub pay-most : t.pay ≤ n * most_pay

-- ---- below the limit

-- the figures of a label
pub record LabelFits (l : Label) : Type 0 where
  pub time-fits : l.time ≤ limit
  pub lateness-fits : l.lateness ≤ limit
  pub pay-fits : l.pay ≤ limit

-- the figures of a run
pub record TotalsFit (t : Totals) : Type 0 where
  pub distance-fits : t.distance ≤ limit
  pub duration-fits : t.duration ≤ limit
  pub lateness-fits : t.lateness ≤ limit
  pub pay-fits : t.pay ≤ limit
  -- what `effective_cost` gives
  pub cost-fits : t.distance + t.pay ≤ limit
