-- The lines of the listing by what they show, with the start of a run's break given. Definitions only.
use Rattle.std.specs.Prelude.{ℕ, zero, suc, List, [], ◌++◌, Option, None, Some}
use Rattle.definitions.specs.Drop.{Result}
use Rattle.definitions.specs.Listing.{text, spaced, end_of_line, customers_text, rest_text}

-- the start of a break that has a place
abbrev pub start_if : ℕ → ℕ → Option ℕ
start_if zero start = None
start_if (suc k) start = Some start

-- a run: customers, then its break
abbrev pub run_text : List ℕ → ℕ → Option ℕ → List ℕ
run_text calls place start = text "run" ++ customers_text calls ++ rest_text place start ++ end_of_line

-- a dropped call: its customer
abbrev pub drop_line : ℕ → List ℕ
drop_line customer = text "drop" ++ spaced customer ++ end_of_line

-- what the total line looks at
abbrev pub figures : ℕ → ℕ → List ℕ → List ℕ → Result
figures distance cost served dropped =
    record { served = served; ends = []; dropped = dropped; cost = cost; distance = distance; places = [] }
