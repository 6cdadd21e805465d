-- A whole-number sheet and what its runs come to, each number held in a float. Definitions only.
use Rattle.std.specs.Prelude.{ℕ, ◌≡◌, false, map, take, Float, Option, None, Some, option_map}
use Rattle.std.specs.Float.{inf}
use Rattle.definitions.specs.Sheet.{Sheet}
use Rattle.definitions.specs.Evaluation.{Evaluation}
use Rattle.whole.specs.Whole.{fl}
use Rattle.models.specs.Image.{fl_break, fl_customer}
use Rattle.clock.specs.Image.{fl_totals}
use Rattle.evaluation.specs.Records.{Tables, LimitsF, EvaluationF}

abbrev pub fl_evaluation : Evaluation → EvaluationF
fl_evaluation e = record { totals = fl_totals e.totals; start = option_map fl e.start }

-- a cost that may be none is infinite there
abbrev pub fl_cost : Option ℕ → Float
fl_cost None = inf false
fl_cost (Some n) = fl n

abbrev pub fl_limits : Sheet → LimitsF
fl_limits s =
    record {
      max_distance = option_map fl s.head.max_distance;
      max_duration = option_map fl s.head.max_duration;
      rest = option_map fl_break s.head.rest;
    }

abbrev pub fl_tables : Sheet → Tables
fl_tables s =
    record {
      customers = map fl_customer s.customers;
      distances = map fl s.legs.distances;
      times = map fl s.legs.times;
      size = s.head.places;
    }

-- the tables hold the sheet; what is lent beyond its places may be anything
pub record Image (s : Sheet) (t : Tables) : Type 0 where
  pub size_is : t.size ≡ s.head.places
  pub distances-are : t.distances ≡ map fl s.legs.distances
  pub times-are : t.times ≡ map fl s.legs.times
  pub records-are : take s.head.places t.customers ≡ map fl_customer s.customers
