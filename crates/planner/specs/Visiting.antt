-- The contract of the visits of a run. Definitions only.
use Rattle.std.specs.Prelude.{ℕ, min, ◌≡◌, List, map, length, take, Float, Option, None, Some}
use Rattle.definitions.specs.Visits as Whole
use Rattle.definitions.specs.Visits.{build_route, violation_number, violation_values}
use Rattle.definitions.specs.Lent.{Lent, visiting}
use Rattle.definitions.specs.Room.{written}
use Rattle.definitions.specs.Answers.{Answer, front, build_route_of}
use Rattle.whole.specs.Whole.{fl}
use Rattle.whole.specs.Value.{value}
use Rattle.visits.specs.declared.visit.Visit.{Visit}
use Rattle.visits.specs.declared.visit.Violation.{Violation}
use Rattle.visits.specs.Figures.{number_in, values_in}
use Rattle.visits.specs.Image.{fl_visit, fl_violation}
use Rattle.call_runs.specs.declared.visiting.RouteFigures.{RouteFigures}
use Rattle.call_runs.specs.declared.visiting.Route.{Route}
use Rattle.call_runs.specs.declared.visiting.Route.TheVariants as Cases
use Rattle.call_runs.specs.declared.visiting.Listed.{Listed}
use Rattle.call_runs.specs.Visiting.{visit_lent, route_in}
use Rattle.planner.specs.Calls.{LentSheet, on, meant, Refused, Untouched}

-- ---- the lists that are written

pub record RouteOutput : Type 0 where
  pub visits : List Visit
  pub violations : List Violation

abbrev pub route_output : List Visit → List Violation → RouteOutput
route_output visits violations = record { visits = visits; violations = violations }

-- what is listed, written at the front of the lent lists, as far as there is room
pub record Writes (l : Listed) (old : RouteOutput) (r : Route) (new : RouteOutput) : Type 0 where
  pub answer : r ≡ l.route
  pub visits-left : new.visits ≡ written (take (min l.count (length old.visits)) l.visits) old.visits
  pub violations-left : new.violations ≡ written (take (min l.found (length old.violations)) l.violations) old.violations

-- ---- the answer

-- the number by which it refuses
abbrev pub route_refusal : Route → Option ℕ
route_refusal (Cases.Refused number) = Some number
route_refusal (Cases.Built figures) = None

abbrev pub IfBuilt : Route → (RouteFigures → Type 0) → Type 0
IfBuilt (Cases.Refused number) P = Unit {0}
IfBuilt (Cases.Built figures) P = P figures

-- by their numbers and values they are the violations ws
pub record AllByFigures (vs : List Violation) (ws : List Whole.Violation) : Type 0 where
  pub numbers : map (λ v. number_in v.kind) vs ≡ map violation_number ws
  pub values : map (λ v. values_in v.kind) vs ≡ map (λ w. map fl (violation_values w)) ws

-- ---- the contract

module _ (q : LentSheet) (run : List ℕ) (old : RouteOutput) where
  -- all that is lent, with the lengths of the lists
  abbrev pub visit_on : Lent Float
  visit_on = on q visit_lent run (length old.visits) (length old.violations)

  abbrev pub visit_answer : Answer Whole.Route
  visit_answer = build_route_of value visit_on

  -- of the answer, and of the lists as they are left
  pub record VisitContract (r : Route) (new : RouteOutput) : Type 0 where
    -- the complete answer
    pub result : r ≡ route_in visit_answer
    pub visits-left : new.visits ≡ written (map fl_visit (front (λ x. x.visits) visit_answer)) old.visits
    pub violations-left : new.violations ≡ written (map fl_violation (front (λ x. x.violations) visit_answer)) old.violations
    -- by which number it is refused, if by one; nothing is written then
    pub refused : Refused visiting visit_on (route_refusal r)
    pub untouched : Untouched (route_refusal r) old new
    -- the violations written, by their numbers and values
    pub figures : IfBuilt r (λ f. AllByFigures (take f.violations new.violations) (build_route (meant q) run).violations)
