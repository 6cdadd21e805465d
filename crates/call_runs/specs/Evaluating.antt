-- What the evaluations of a run answer over what they are lent: the enum's case for each case of the complete answer of
-- crates/definitions, each figure held in a float. Definitions only.
use Rattle.std.specs.Prelude.{ℕ, Bool, List, [], Float, Option, None, Some, option_map}
use Rattle.definitions.specs.Lent.{Lent}
use Rattle.definitions.specs.Answers as Whole
use Rattle.definitions.specs.Evaluation as Evaluated
use Rattle.definitions.specs.Answers.{refused, gives, route_feasible_of, effective_cost_of, eval_by_of}
use Rattle.whole.specs.Value.{value}
use Rattle.models.specs.declared.customer.Customer.{Customer}
use Rattle.models.specs.declared.placement.Placement.{Placement}
use Rattle.evaluation.specs.declared.route.RouteEval.{RouteEval}
use Rattle.evaluation.specs.Records.{EvaluationF}
use Rattle.evaluation.specs.Image.{fl_cost, fl_evaluation}
use Rattle.models.specs.declared.head.Head.{Head}
use Rattle.refuse_order.specs.Lent.{sheet_of, lent_of}
use Rattle.placements.specs.Chosen.{placement_of}
use Rattle.call_runs.specs.declared.evaluating.Feasible.{Feasible}
use Rattle.call_runs.specs.declared.evaluating.Feasible.TheVariants as Feasibles
use Rattle.call_runs.specs.declared.evaluating.Cost.{Cost}
use Rattle.call_runs.specs.declared.evaluating.Cost.TheVariants as Costs
use Rattle.call_runs.specs.declared.evaluating.Evaluation.{Evaluation}
use Rattle.call_runs.specs.declared.evaluating.Evaluation.TheVariants as Evaluations

-- the sheet and the run; these calls take no tour, run ends or break places, and write nothing
abbrev pub run_lent : Head → List Customer → List Float → List Float → List ℕ → Lent Float
run_lent head customers distances times run = lent_of (sheet_of head customers distances times) [] run [] [] []

-- ---- route_feasible

abbrev pub feasible_in : Whole.Answer Bool → Feasible
feasible_in (refused number) = Feasibles.Refused number
feasible_in (gives b) = Feasibles.Answer b

abbrev pub feasible_answer : Head → List Customer → List Float → List Float → List ℕ → Feasible
feasible_answer head customers distances times run = feasible_in (route_feasible_of value (run_lent head customers distances times run))

-- ---- effective_cost

-- infinity where the run is not allowed
abbrev pub cost_in : Whole.Answer (Option ℕ) → Cost
cost_in (refused number) = Costs.Refused number
cost_in (gives cost) = Costs.Answer (fl_cost cost)

abbrev pub cost_answer : Head → List Customer → List Float → List Float → List ℕ → Cost
cost_answer head customers distances times run = cost_in (effective_cost_of value (run_lent head customers distances times run))

-- ---- route_eval

abbrev pub start_in : Option Float → Option Float
start_in None = None
start_in (Some t) = Some t

-- the code's record of totals and the break's start
abbrev pub eval_in : EvaluationF → RouteEval
eval_in e =
    record {
      distance = e.totals.distance;
      duration = e.totals.duration;
      lateness = e.totals.lateness;
      lateness_cost = e.totals.cost;
      place = e.totals.place;
      start = start_in e.start;
    }

-- a run that is not allowed, or what it comes to
abbrev pub allowed_in : Option EvaluationF → Evaluation
allowed_in None = Evaluations.NotAllowed
allowed_in (Some e) = Evaluations.Allowed (eval_in e)

abbrev pub evaluation_in : Whole.Answer (Option Evaluated.Evaluation) → Evaluation
evaluation_in (refused number) = Evaluations.Refused number
evaluation_in (gives e) = allowed_in (option_map fl_evaluation e)

abbrev pub eval_answer : Head → List Customer → List Float → List Float → List ℕ → Placement → Evaluation
eval_answer head customers distances times run placement =
    evaluation_in (eval_by_of value (placement_of placement) (run_lent head customers distances times run))
