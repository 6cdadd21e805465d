-- The clock over the calls of a run, on floats. Definitions only.
use Rattle.std.specs.Prelude.{ℕ, List, [], ◌∷◌, Float, Option, Some}
use Rattle.std.specs.Float.Ieee as Ieee
use Rattle.std.specs.Float.{binary64}
use Rattle.basics.specs.Options.{◌>>=◌}
use Rattle.definitions.specs.Sheet.{BreakOf}
use Rattle.whole.specs.Whole.{fl}
use Rattle.clock.specs.declared.schedule.Scheduled.{Scheduled}
use Rattle.clock.specs.Records.{ClockF}
use Rattle.clock.specs.Clock.{begun_f, push_f, finish_f}
use Rattle.evaluation.specs.Records.{Tables}
use Rattle.evaluation.specs.Tables.{record_f, leg_f}

-- a run on its way with a break: its clock, and the distance travelled
pub record TimedF : Type 0 where
  pub clock : ClockF
  pub distance : Float

abbrev pub timed : ClockF → Float → TimedF
timed x far = record { clock = x; distance = far }

-- one call more, looked up in the tables; a closed leg ends the run
abbrev pub tick_f : Tables → TimedF → ℕ → Option TimedF
tick_f t x c =
    leg_f t x.clock.prev c
    >>= λ g. Some (timed (push_f x.clock c (record_f t c) g.time) (Ieee.add binary64 x.distance g.distance))

unfoldable pub clock_from_f : Tables → TimedF → List ℕ → Option TimedF
clock_from_f t x [] = Some x
clock_from_f t x (c ∷ cs) = tick_f t x c >>= λ y. clock_from_f t y cs

-- and home
abbrev pub clock_home_f : Tables → TimedF → Option Scheduled
clock_home_f t x = leg_f t x.clock.prev 0 >>= λ g. finish_f (Ieee.add binary64 x.distance g.distance) g.time x.clock

-- a run that is `far` on its way, ended by these calls
unfoldable pub end_f : Tables → ClockF → Float → List ℕ → Option Scheduled
end_f t x far calls = clock_from_f t (timed x far) calls >>= clock_home_f t

abbrev pub schedule_f : Tables → BreakOf Float → List ℕ → Option Scheduled
schedule_f t b calls = end_f t (begun_f b) (fl 0) calls
