-- What an improver is told of a sheet besides its records and tables, on floats, as the code has it. Definitions only.
use Rattle.std.specs.Prelude.{ℕ, Bool, List, Float}
use Rattle.definitions.specs.Sheet.{CustomerOf, Sheet}
use Rattle.evaluation.specs.Records.{Tables, LimitsF, limits_of}
use Rattle.evaluation.specs.Checks.{checks_needed_f}
use Rattle.evaluation.specs.Image.{fl_limits}
use Rattle.improve_base.specs.declared.search.Search.{Search}

pub record SearchF : Type 0 where
  pub limits : LimitsF
  -- whether a run has to be feasible
  pub constrained : Bool

abbrev pub search_of : Search → SearchF
search_of x = record { limits = limits_of x.limits; constrained = x.constrained }

unfoldable pub search_f : List (CustomerOf Float) → ℕ → LimitsF → SearchF
search_f customers size limits = record { limits = limits; constrained = checks_needed_f customers size limits }

-- what it is told of a sheet of whole numbers, held in these tables
abbrev pub told : Sheet → Tables → SearchF
told s t = search_f t.customers t.size (fl_limits s)
