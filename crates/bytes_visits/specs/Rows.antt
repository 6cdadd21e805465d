-- A timeline in rows of numbers: three times and two loads for each visit, a number and three figures for each violation. Definitions only.
use Rattle.std.specs.Prelude.{ℕ, zero, suc, cond, List, [], ◌∷◌, ◌++◌, leb, length, get_or, take, Float, None}
use Rattle.std.specs.Float.{nan}
use Rattle.definitions.specs.Load.{no_load}
use Rattle.definitions.specs.Visits as Whole
use Rattle.definitions.specs.Visits.{break_not_placeable, violation_number, violation_values}
use Rattle.definitions.specs.Timeline.{Stop, Timeline}
use Rattle.whole.specs.Whole.{fl, limit}
use Rattle.visits.specs.declared.visit.Visit.{Visit}
use Rattle.visits.specs.declared.visit.Violation.{Violation}
use Rattle.visits.specs.declared.visit.ViolationType.{ViolationType}
use Rattle.visits.specs.declared.visit.ViolationType.TheVariants.{TimeWindowViolated, BreakNotPlaceable, CapacityExceeded, MaxDistanceExceeded, MaxDurationExceeded, WheelchairsExceeded, ClosedLeg}
use Rattle.visits.specs.Visiting.{blank_violation}
use Rattle.visits.specs.Figures.{number_in}

-- the first n rows, one behind the other
unfoldable pub rows_to : {A : Type 0} → (ℕ → List A) → ℕ → List A
rows_to row zero = []
rows_to row (suc n) = rows_to row n ++ row n

-- ---- in whole numbers

-- a row for each element of a list; d is never read
abbrev pub rows_of : {A B : Type 0} → (A → List B) → A → List A → List B
rows_of row d l = rows_to (λ i. row (get_or l i d)) (length l)

abbrev pub no_stop : Stop
no_stop = record { visit = record { customer = 0; arrival = 0; departure = 0; load = no_load }; rest = None; begin = 0 }

-- arrival, service start and departure of each call
abbrev pub times_row : Stop → List ℕ
times_row x = x.visit.arrival ∷ x.begin ∷ x.visit.departure ∷ []

abbrev pub times_of : Timeline → List ℕ
times_of t = rows_of times_row no_stop t.stops

-- seats and wheelchair places taken after each call
abbrev pub loads_row : Stop → List ℕ
loads_row x = x.visit.load.seats ∷ x.visit.load.wheelchairs ∷ []

abbrev pub loads_of : Timeline → List ℕ
loads_of t = rows_of loads_row no_stop t.stops

-- the number of each violation
abbrev pub numbers_of : Timeline → List ℕ
numbers_of t = rows_of (λ v. violation_number v ∷ []) break_not_placeable t.violations

-- its values, and 0 for those up to three that it has not
abbrev pub figures_row : Whole.Violation → List ℕ
figures_row v = take 3 (violation_values v ++ 0 ∷ 0 ∷ 0 ∷ [])

abbrev pub figures_of : Timeline → List ℕ
figures_of t = rows_of figures_row break_not_placeable t.violations

-- ---- on floats, as the code has them

-- what is read where there is no visit
abbrev pub unread : Visit
unread = record { customer_id = 0; arrival_time = nan; departure_time = nan; load_after = record { seats = 0; wheelchairs = 0 } }

abbrev pub times_row_f : List Visit → List Float → ℕ → List Float
times_row_f visits begins i =
    (get_or visits i unread).arrival_time ∷ get_or begins i nan ∷ (get_or visits i unread).departure_time ∷ []

abbrev pub loads_row_f : List Visit → ℕ → List ℕ
loads_row_f visits i = (get_or visits i unread).load_after.seats ∷ (get_or visits i unread).load_after.wheelchairs ∷ []

abbrev pub number_row_f : List Violation → ℕ → List ℕ
number_row_f list i = number_in (get_or list i blank_violation).kind ∷ []

-- a number that a float holds, and 0 for one beyond
unfoldable pub held_f : ℕ → Float
held_f n = cond (leb n limit) (fl n) (fl 0)

abbrev pub figures_in : ViolationType → List Float
figures_in (TimeWindowViolated customer arrival due) = held_f customer ∷ arrival ∷ due ∷ []
figures_in BreakNotPlaceable = fl 0 ∷ fl 0 ∷ fl 0 ∷ []
figures_in (CapacityExceeded load capacity) = held_f load ∷ fl capacity ∷ fl 0 ∷ []
figures_in (MaxDistanceExceeded distance max) = distance ∷ max ∷ fl 0 ∷ []
figures_in (MaxDurationExceeded duration max) = duration ∷ max ∷ fl 0 ∷ []
figures_in (WheelchairsExceeded load capacity) = held_f load ∷ fl capacity ∷ fl 0 ∷ []
figures_in (ClosedLeg leg) = held_f leg ∷ fl 0 ∷ fl 0 ∷ []

abbrev pub figures_row_f : List Violation → ℕ → List Float
figures_row_f list i = figures_in (get_or list i blank_violation).kind
