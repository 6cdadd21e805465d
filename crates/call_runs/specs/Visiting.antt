-- What `build_route` answers and writes over what it is lent: the enum's case for each case of the complete answer of
-- crates/definitions, visits and violations by their counts, each figure held in a float. Definitions only.
use Rattle.std.specs.Prelude.{ℕ, ◌≤◌, ◌≡◌, List, [], ◌∷◌, map, length, replicate, take, Float, option_map}
use Rattle.definitions.specs.Lent.{Lent}
use Rattle.definitions.specs.Visits as Whole
use Rattle.definitions.specs.Answers.{Answer, refused, gives, front, build_route_of}
use Rattle.models.specs.declared.customer.Customer.{Customer}
use Rattle.models.specs.declared.head.Head.{Head}
use Rattle.refuse_order.specs.Lent.{sheet_of, lent_of, Gathered}
use Rattle.whole.specs.Whole.{fl}
use Rattle.whole.specs.Value.{value}
use Rattle.visits.specs.declared.evaluator.Built.{Built}
use Rattle.visits.specs.Visiting.{load_in, most_violations, blank_visit, blank_violation}
use Rattle.visits.specs.Image.{fl_visit, fl_violation}
use Rattle.call_runs.specs.declared.visiting.RouteFigures.{RouteFigures}
use Rattle.call_runs.specs.declared.visiting.Route.{Route}
use Rattle.call_runs.specs.declared.visiting.Route.TheVariants as Cases
use Rattle.call_runs.specs.declared.visiting.Listed.{Listed}
use Rattle.call_runs.specs.Evaluating.{start_in}

-- the sheet, the run, and the lengths of the lists for visits and violations
abbrev pub visit_lent : Head → List Customer → List Float → List Float → List ℕ → ℕ → ℕ → Lent Float
visit_lent head customers distances times run visits violations =
    lent_of (sheet_of head customers distances times) [] run [] [] (visits ∷ violations ∷ [])

-- the complete answer, for any customers
abbrev pub route_answer : Head → List Float → List Float → List ℕ → ℕ → ℕ → List Customer → Answer Whole.Route
route_answer head distances times run visits violations customers =
    build_route_of value (visit_lent head customers distances times run visits violations)

abbrev pub figures_of : Whole.Route → RouteFigures
figures_of x =
    record {
      visits = length x.visits;
      violations = length x.violations;
      distance = fl x.totals.distance;
      duration = fl x.totals.duration;
      lateness = fl x.totals.lateness;
      lateness_cost = fl x.totals.pay;
      load = load_in x.load;
      place = x.totals.place;
      start = start_in (option_map fl x.start);
    }

abbrev pub route_in : Answer Whole.Route → Route
route_in (refused number) = Cases.Refused number
route_in (gives x) = Cases.Built (figures_of x)

-- ---- the code's records

-- nothing is to be written
abbrev pub refused_by : ℕ → Listed
refused_by number =
    record {
      route = Cases.Refused number;
      visits = replicate 128 blank_visit;
      count = 0;
      violations = replicate most_violations blank_violation;
      found = 0;
    }

abbrev pub figures_in : Built → RouteFigures
figures_in b =
    record {
      visits = b.count;
      violations = b.found;
      distance = b.distance;
      duration = b.duration;
      lateness = b.lateness;
      lateness_cost = b.lateness_cost;
      load = b.load;
      place = b.place;
      start = b.start;
    }

abbrev pub given_by : Built → Listed
given_by b = record { route = Cases.Built (figures_in b); visits = b.visits; count = b.count; violations = b.violations; found = b.found }

-- ---- what the code has of them

-- an answer with what is to be written, for which there is room
pub record Lists (o : Answer Whole.Route) (visits violations : ℕ) (r : Listed) : Type 0 where
  pub route-is : r.route ≡ route_in o
  pub visits-are : take r.count r.visits ≡ map fl_visit (front (λ x. x.visits) o)
  pub violations-are : take r.found r.violations ≡ map fl_violation (front (λ x. x.violations) o)
  pub visits-fit : r.count ≤ visits
  pub violations-fit : r.found ≤ violations

-- whatever customers the array was gathered from
abbrev pub ListsFrom : (List Customer → Answer Whole.Route) → ℕ → ℕ → ℕ → List Customer → Listed → Type 0
ListsFrom answered visits violations count array r =
    (customers : List Customer) → Gathered customers count array → Lists (answered customers) visits violations r
