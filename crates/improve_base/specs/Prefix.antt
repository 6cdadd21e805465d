-- A run whose first calls are fixed: where they leave the bus, and whether these calls and those that follow are a run that is feasible, on
-- floats, in the code's order of sums. Definitions only.
use Rattle.std.specs.Prelude.{ℕ, suc, ◌≤◌, ◌≡◌, Bool, true, false, cond, List, [], ◌∷◌, ◌++◌, length, Float, Option, None, Some}
use Rattle.std.specs.Float.Ieee as Ieee
use Rattle.std.specs.Float.{binary64}
use Rattle.basics.specs.Options.{◌>>=◌, present}
use Rattle.definitions.specs.Sheet.{BreakOf}
use Rattle.whole.specs.Whole.{fl}
use Rattle.distance.specs.declared.leg.Leg.{Leg}
use Rattle.clock.specs.declared.schedule.Scheduled.{Scheduled}
use Rattle.clock.specs.Records.{ClockF, clock_of}
use Rattle.clock.specs.Clock.{begun_f, alive_f, home_f, finish_f}
use Rattle.evaluation.specs.declared.way.Way.{Way}
use Rattle.evaluation.specs.declared.schedule.Timed.{Timed}
use Rattle.evaluation.specs.Records.{Tables, LimitsF}
use Rattle.evaluation.specs.Tables.{record_f, leg_f}
use Rattle.evaluation.specs.Schedule.{TimedF, timed, tick_f}
use Rattle.evaluation.specs.Way.{start_way, way_on_f}
use Rattle.evaluation.specs.Route.{kept_f, feasible_f}
use Rattle.improve_base.specs.declared.prefix.Prefix.{Prefix}
use Rattle.improve_base.specs.declared.prefix.Prefix.TheVariants.{Failed, Plain, Clock}

-- the calls cannot be served; or the way so far, with no break; or the clock and the distance so far
pub data PrefixF : Type 0 where
  failed : PrefixF
  plain : Way → PrefixF
  clocked : ClockF → Float → PrefixF

abbrev pub timed_of : Timed → TimedF
timed_of x = timed (clock_of x.clock) x.distance

abbrev pub clocked_at : TimedF → PrefixF
clocked_at x = clocked x.clock x.distance

abbrev pub prefix_of : Prefix → PrefixF
prefix_of Failed = failed
prefix_of (Plain w) = plain w
prefix_of (Clock c) = clocked_at (timed_of c)

abbrev pub failed_f : PrefixF → Bool
failed_f failed = true
failed_f (plain w) = false
failed_f (clocked x far) = false

-- the number of the next call, where the clock counts them
abbrev pub index_f : PrefixF → ℕ
index_f failed = 0
index_f (plain w) = 0
index_f (clocked x far) = x.index

-- ---- call by call

-- before the first call
abbrev pub set_out_f : Option (BreakOf Float) → PrefixF
set_out_f None = plain start_way
set_out_f (Some b) = clocked (begun_f b) (fl 0)

abbrev pub reached_f : Option Way → PrefixF
reached_f None = failed
reached_f (Some w) = plain w

-- a clock with no label left has failed
abbrev pub ticked_f : Option TimedF → PrefixF
ticked_f None = failed
ticked_f (Some x) = cond (alive_f x.clock) (clocked_at x) failed

-- one call more on the way, looked up in the tables
abbrev pub drive_f : Tables → Way → ℕ → Option Way
drive_f t w c = leg_f t w.prev c >>= λ g. way_on_f (record_f t c) g.distance g.time w c

-- and from anywhere
unfoldable pub on_f : Tables → PrefixF → ℕ → PrefixF
on_f t failed c = failed
on_f t (plain w) c = reached_f (drive_f t w c)
on_f t (clocked x far) c = ticked_f (tick_f t (timed x far) c)

-- these calls, one after the other
unfoldable pub on_all_f : Tables → PrefixF → List ℕ → PrefixF
on_all_f t b [] = b
on_all_f t b (c ∷ cs) = on_all_f t (on_f t b c) cs

-- ---- the run ended by these calls

module _ (leg : ℕ → ℕ → Option Leg) where
  -- home from here
  unfoldable pub home_from_f : PrefixF → Option Scheduled
  home_from_f failed = None
  home_from_f (plain w) = leg w.prev 0 >>= λ g. Some (home_f (Ieee.add binary64 w.distance g.distance) g.time w.label)
  home_from_f (clocked x far) = leg x.prev 0 >>= λ g. finish_f (Ieee.add binary64 far g.distance) g.time x

abbrev pub ended_f : Tables → PrefixF → List ℕ → Option Scheduled
ended_f t b calls = home_from_f (leg_f t) (on_all_f t b calls)

unfoldable pub feasible_from_f : Tables → LimitsF → PrefixF → List ℕ → Bool
feasible_from_f t limits b calls = present (kept_f limits (ended_f t b calls))

-- these calls lead to b: whatever calls follow, the run is feasible where it is from b on
pub record Leads (t : Tables) (limits : LimitsF) (calls : List ℕ) (b : PrefixF) : Type 0 where
  pub feasible : (rest : List ℕ) → feasible_f t limits (calls ++ rest) ≡ feasible_from_f t limits b rest
  pub index : index_f b ≤ suc (length calls)
