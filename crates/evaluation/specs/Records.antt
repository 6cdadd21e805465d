-- What the code's structs and enums hold. Definitions only.
use Rattle.std.specs.Prelude.{ℕ, List, map, Float, Option, None, Some}
use Rattle.definitions.specs.Sheet.{BreakOf, CustomerOf}
use Rattle.models.specs.declared.customer.Customer.{Customer}
use Rattle.models.specs.declared.limits.RouteLimits.{RouteLimits}
use Rattle.models.specs.Records.{customer_of, rest_of}
use Rattle.clock.specs.declared.schedule.Scheduled.{Scheduled}
use Rattle.evaluation.specs.declared.way.Way.{Way}
use Rattle.evaluation.specs.declared.route.Taken.{Taken}
use Rattle.evaluation.specs.declared.route.RouteEval.{RouteEval}

-- ---- what is lent

-- the customers' records and the leg tables of so many rows
pub record Tables : Type 0 where
  pub customers : List (CustomerOf Float)
  pub distances : List Float
  pub times : List Float
  pub size : ℕ

abbrev pub lent : List Customer → List Float → List Float → ℕ → Tables
lent customers distances times size = record { customers = map customer_of customers; distances = distances; times = times; size = size }

-- ---- the evaluations

-- the place of a run's break, from 1, or 0, and when it starts
pub record TakenF : Type 0 where
  pub place : ℕ
  pub start : Option Float

abbrev pub taken_of : Taken → TakenF
taken_of b = record { place = b.place; start = b.start }

-- a run's totals, and when its break starts
pub record EvaluationF : Type 0 where
  pub totals : Scheduled
  pub start : Option Float

abbrev pub evaluation_of : RouteEval → EvaluationF
evaluation_of e =
    record {
      totals =
          record {
            distance = e.distance;
            duration = e.duration;
            lateness = e.lateness;
            cost = e.lateness_cost;
            place = e.place;
          };
      start = e.start;
    }

abbrev pub evaluated_of : Option RouteEval → Option EvaluationF
evaluated_of None = None
evaluated_of (Some e) = Some (evaluation_of e)

-- what a run may not exceed, and its break
pub record LimitsF : Type 0 where
  pub max_distance : Option Float
  pub max_duration : Option Float
  pub rest : Option (BreakOf Float)

abbrev pub limits_of : RouteLimits → LimitsF
limits_of l = record { max_distance = l.max_distance; max_duration = l.max_duration; rest = rest_of l.rest }
