-- Whether `route_feasible` has to be asked, on floats, as the code has it. Definitions only.
use Rattle.std.specs.Prelude.{ℕ, Bool, ◌||◌, List, take, Float}
use Rattle.basics.specs.Options.{present}
use Rattle.basics.specs.Lists.{any}
use Rattle.definitions.specs.Sheet.{CustomerOf}
use Rattle.evaluation.specs.Records.{LimitsF}

abbrev pub windowed : {F : Type 0} → CustomerOf F → Bool
windowed c = present c.window

abbrev pub windowed_any : {F : Type 0} → List (CustomerOf F) → Bool
windowed_any l = any windowed l

-- a limit or a break is set
abbrev pub limited_f : LimitsF → Bool
limited_f l = present l.max_distance || (present l.max_duration || present l.rest)

-- or one of the first n customers has a window
unfoldable pub checks_needed_f : List (CustomerOf Float) → ℕ → LimitsF → Bool
checks_needed_f customers n limits = windowed_any (take n customers) || limited_f limits
