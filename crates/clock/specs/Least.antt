-- The end of a run with one of its break places, and the better of two ends, on floats as the code has them. Definitions only.
use Rattle.std.specs.Prelude.{Bool, cond, ◌&&◌, ◌||◌, Float, Option, None, Some}
use Rattle.std.specs.Float.Ieee as Ieee
use Rattle.std.specs.Float.{binary64}
use Rattle.basics.specs.Options.{given}
use Rattle.definitions.specs.Sheet.{BreakOf}
use Rattle.models.specs.declared.limits.RouteLimits.{RouteLimits}
use Rattle.models.specs.Limits.{allow_f}
use Rattle.clock.specs.declared.schedule.Label.{Label}
use Rattle.clock.specs.declared.schedule.Scheduled.{Scheduled}
use Rattle.clock.specs.Clock.{excused_f, home_f}

-- the limits that the end of a run keeps
pub record KeptF : Type 0 where
  pub max_distance : Option Float
  pub max_duration : Option Float

abbrev pub limits_on : RouteLimits → KeptF
limits_on l = record { max_distance = l.max_distance; max_duration = l.max_duration }

-- with the break taken: none where that breaks a limit
unfoldable pub kept_home_f : KeptF → Float → Float → Label → Option Scheduled
kept_home_f limits distance back l =
    given (allow_f limits.max_distance limits.max_duration distance (Ieee.add binary64 l.time back)) (home_f distance back l)

-- without one: none also where the run needs it
unfoldable pub excused_home_f : BreakOf Float → KeptF → Float → Float → Label → Option Scheduled
excused_home_f b limits distance back l =
    cond (excused_f b (Ieee.add binary64 l.time back)) (kept_home_f limits distance back l) None

-- better: lower lateness pay or, with the same pay, an earlier return
abbrev pub better_f : Scheduled → Scheduled → Bool
better_f y x = Ieee.lt y.cost x.cost || (Ieee.eq y.cost x.cost && Ieee.lt y.duration x.duration)

-- the better of the two; a tie keeps the first
unfoldable pub pick_f : Option Scheduled → Option Scheduled → Option Scheduled
pick_f None y = y
pick_f (Some x) None = Some x
pick_f (Some x) (Some y) = cond (better_f y x) (Some y) (Some x)
