-- The words of the lines that a recorded answer has on a run, number by number. Definitions only.
use Rattle.std.specs.Prelude.{ℕ, Bool, cond, false, List, [], ◌∷◌, ◌++◌, Float, Option, None, Some}
use Prim.Native.String.{String}
use Rattle.std.specs.Float.{inf}
use Rattle.std.specs.Float.Ieee.{lt}
use Rattle.definitions.specs.Load.{Load}
use Rattle.definitions.specs.Listing.{text, spaced, end_of_line}
use Rattle.models.specs.Load.{load_of}
use Rattle.listing_lines.specs.Number.{whole_part}
use Rattle.visits.specs.declared.visit.Visit.{Visit}
use Rattle.visits.specs.declared.visit.ViolationType.{ViolationType}
use Rattle.visits.specs.declared.visit.ViolationType.TheVariants.{TimeWindowViolated, BreakNotPlaceable, CapacityExceeded, MaxDistanceExceeded, MaxDurationExceeded, WheelchairsExceeded, ClosedLeg}
use Rattle.visits.specs.declared.visit.Violation.{Violation}
use Rattle.visits.specs.Building.{RouteF}

-- ---- words

abbrev pub Words : Type 0
Words = List (List ℕ)

-- those of each element
unfoldable pub each : {A : Type 0} → (A → Words) → List A → Words
each f [] = []
each f (x ∷ xs) = f x ++ each f xs

-- a word, others and the end of the line
abbrev pub line : String → Words → Words
line first others = text first ∷ others ++ (end_of_line ∷ [])

-- a float that holds a whole number
abbrev pub figure : Float → List ℕ
figure x = spaced (whole_part x)

abbrev pub numbers : List ℕ → Words
numbers ns = each (λ n. spaced n ∷ []) ns

-- ---- a run that is built

-- seats, then wheelchair places
abbrev pub load_figures : Load → Words
load_figures load = spaced load.seats ∷ spaced load.wheelchairs ∷ []

-- a customer, the times of arrival and departure, and the load
abbrev pub visit_line : Visit → Words
visit_line v =
    line "visit"
    (spaced v.customer_id ∷ figure v.arrival_time ∷ figure v.departure_time ∷ load_figures (load_of v.load_after))

-- the number of a violation in a measure, what is carried and what the vehicle holds
abbrev pub over_figures : ℕ → ℕ → ℕ → Words
over_figures n load capacity = spaced n ∷ spaced load ∷ spaced capacity ∷ []

-- the number of a violation, and its figures
abbrev pub violation_figures : ViolationType → Words
violation_figures (TimeWindowViolated customer arrival due) = spaced 1 ∷ spaced customer ∷ figure arrival ∷ figure due ∷ []
violation_figures BreakNotPlaceable = spaced 2 ∷ []
violation_figures (CapacityExceeded load capacity) = over_figures 3 load capacity
violation_figures (MaxDistanceExceeded distance most) = spaced 4 ∷ figure distance ∷ figure most ∷ []
violation_figures (MaxDurationExceeded duration most) = spaced 5 ∷ figure duration ∷ figure most ∷ []
violation_figures (WheelchairsExceeded load capacity) = over_figures 6 load capacity
violation_figures (ClosedLeg leg) = spaced 7 ∷ spaced leg ∷ []

abbrev pub violation_line : Violation → Words
violation_line v = line "violation" (violation_figures v.kind)

-- the break's place and start, where there is a break
abbrev pub break_figures : ℕ → Option Float → Words
break_figures place None = []
break_figures place (Some start) = spaced place ∷ figure start ∷ []

-- distance, duration, lateness with its cost, and load
abbrev pub total_figures : RouteF → Words
total_figures r =
    let t = r.totals in
    figure t.distance ∷ figure t.duration ∷ figure t.lateness ∷ figure t.cost ∷ load_figures r.load

-- the visits and the violations, then the totals and the break
abbrev pub built_lines : RouteF → Words
built_lines r =
    each visit_line r.visits
    ++ each violation_line r.violations
    ++ line "route" (total_figures r ++ break_figures r.totals.place r.start)

-- ---- a run that is evaluated

abbrev pub verdict_word : Bool → List ℕ
verdict_word feasible = cond feasible (text "feasible") (text "infeasible")

-- a cost, or the word for one that is infinite
abbrev pub cost_word : Float → List ℕ
cost_word cost = cond (lt cost (inf false)) (figure cost) (text " infinite")

abbrev pub evaluation_line : Bool → Float → Words
evaluation_line feasible cost = verdict_word feasible ∷ cost_word cost ∷ end_of_line ∷ []
