-- Windows on floats, step by step as the code has them. Definitions only.
use Rattle.std.specs.Prelude.{Bool, cond, Float, Option, None, Some}
use Rattle.std.specs.Float.Ieee as Ieee
use Rattle.std.specs.Float.{binary64}
use Rattle.definitions.specs.Sheet.{WindowOf}
use Rattle.whole.specs.Whole.{fl}
use Rattle.whole.specs.Larger.{larger_f}

-- late means arrival above due
abbrev pub late_f : WindowOf Float → Float → Bool
late_f w arrival = Ieee.lt w.due arrival

-- waiting is ready minus arrival, if positive
abbrev pub waiting_f : WindowOf Float → Float → Float
waiting_f w arrival = cond (Ieee.lt arrival w.ready) (Ieee.sub binary64 w.ready arrival) (fl 0)

-- the larger of 0 and arrival minus due
abbrev pub lateness_f : WindowOf Float → Float → Float
lateness_f w arrival = larger_f (Ieee.sub binary64 arrival w.due) (fl 0)

-- when a window closes, and 0 where there is none
abbrev pub due_f : Option (WindowOf Float) → Float
due_f None = fl 0
due_f (Some w) = w.due
