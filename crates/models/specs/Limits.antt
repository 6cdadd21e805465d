-- Limits on floats, as the code has them. Definitions only.
use Rattle.std.specs.Prelude.{Bool, true, ◌&&◌, Float, Option, None, Some}
use Rattle.std.specs.Float.Ieee as Ieee
use Rattle.basics.specs.Options.{value_or}
use Rattle.whole.specs.Whole.{fl}

-- the limit, and 0 where there is none
abbrev pub limit_f : Option Float → Float
limit_f o = value_or (fl 0) o

-- at most the limit, if given
abbrev pub within_f : Option Float → Float → Bool
within_f None x = true
within_f (Some max) x = Ieee.le x max

abbrev pub allow_f : Option Float → Option Float → Float → Float → Bool
allow_f max_distance max_duration distance duration = within_f max_distance distance && within_f max_duration duration
