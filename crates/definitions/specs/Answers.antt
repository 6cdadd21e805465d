-- The complete answer of each public call over what it is lent: refused by number with nothing written, or its result and what it
-- writes at the front of each lent list. Definitions only.
use Rattle.std.specs.Prelude.{ℕ, Bool, List, [], Option, None, Some}
use Rattle.definitions.specs.Sheet.{Customer, Sheet}
use Rattle.definitions.specs.Placement.{Placement, by_clock}
use Rattle.definitions.specs.Evaluation.{Evaluation, route_feasible, eval_by, effective_cost}
use Rattle.definitions.specs.Drop.{Result, split_by, split}
use Rattle.definitions.specs.Visits.{Route, build_route}
use Rattle.definitions.specs.Marker.{Verdict, with_places, mark_by}
use Rattle.definitions.specs.Improver.{given_of}
use Rattle.definitions.specs.RunList.{runs_of, calls_of, ends_of}
use Rattle.definitions.specs.TwoOpt.{improved, improved_distance}
use Rattle.definitions.specs.Elimination.{eliminated}
use Rattle.definitions.specs.Reader.{Reading, sheet, refused_at}
use Rattle.definitions.specs.Lent.{Lent, whole_sheet, Call, cutting, evaluating, visiting, marking, reversing, eliminating}
use Rattle.definitions.specs.Refusals.{refusal_of}

-- a call is refused by a number of the scope document's list, or gives its result
pub data Answer (A : Type 0) : Type 0 where
  refused : (number : ℕ) → Answer A
  gives : A → Answer A

-- what an answer writes at the front of a lent list: nothing where the call is refused
abbrev pub front : {A B : Type 0} → (A → List B) → Answer A → List B
front list (refused number) = []
front list (gives result) = list result

abbrev pub unless_refused : {A : Type 0} → Option ℕ → A → Answer A
unless_refused (Some number) result = refused number
unless_refused None result = gives result

-- what the improvers give: calls and distance; calls and run ends
pub record Improved : Type 0 where
  pub calls : List ℕ
  pub distance : ℕ

pub record Eliminated : Type 0 where
  pub calls : List ℕ
  pub ends : List ℕ

abbrev pub two_opt : Sheet → List ℕ → Improved
two_opt s run = record { calls = improved (given_of s) run; distance = improved_distance (given_of s) run }

abbrev pub eliminate : Sheet → List (List ℕ) → Eliminated
eliminate s runs = let left = eliminated (given_of s) runs in record { calls = calls_of left; ends = ends_of left }

module _ {F : Type 0} (value : F → Option ℕ) where
  -- the result on the sheet of whole numbers that the lent one means, where no refusal fits
  unfoldable pub answer : {A : Type 0} → Call → (Sheet → A) → Lent F → Answer A
  answer k result l = unless_refused (refusal_of value k l) (result (whole_sheet value l.sheet))

  -- ---- run evaluation: nothing is written

  abbrev pub route_feasible_of : Lent F → Answer Bool
  route_feasible_of l = answer evaluating (λ s. route_feasible s l.calls) l

  abbrev pub eval_by_of : Placement → Lent F → Answer (Option Evaluation)
  eval_by_of p l = answer evaluating (λ s. eval_by p s l.calls) l

  abbrev pub route_eval_of : Lent F → Answer (Option Evaluation)
  route_eval_of l = eval_by_of by_clock l

  abbrev pub effective_cost_of : Lent F → Answer (Option ℕ)
  effective_cost_of l = answer evaluating (λ s. effective_cost s l.calls) l

  -- ---- cutting: `served`, `ends` and `dropped` are written

  abbrev pub split_by_of : Placement → Lent F → Answer Result
  split_by_of p l = answer cutting (λ s. split_by p s l.tour) l

  abbrev pub split_tw_of : Lent F → Answer Result
  split_tw_of l = split_by_of by_clock l

  abbrev pub split_of : Lent F → Answer Result
  split_of l = answer cutting (λ s. split s l.tour) l

  -- ---- visits: `visits` and `violations` are written

  abbrev pub build_route_of : Lent F → Answer Route
  build_route_of l = answer visiting (λ s. build_route s l.calls) l

  -- ---- the marker: nothing is written

  abbrev pub mark_by_of : Placement → Lent F → Answer Verdict
  mark_by_of p l = answer marking (λ s. mark_by p s l.tour (with_places (runs_of l.calls l.ends) l.breaks)) l

  abbrev pub mark_of : Lent F → Answer Verdict
  mark_of l = mark_by_of by_clock l

  -- ---- the improvers: `calls`, and `ends`, are written

  abbrev pub two_opt_of : Lent F → Answer Improved
  two_opt_of l = answer reversing (λ s. two_opt s l.calls) l

  abbrev pub eliminate_of : Lent F → Answer Eliminated
  eliminate_of l = answer eliminating (λ s. eliminate s (runs_of l.calls l.ends)) l

-- ---- the reader: as many records as places, the distances, the times and the tour are written

-- what reading writes at the front of a lent list
abbrev pub read_front : {B : Type 0} → (Sheet → List ℕ → List B) → Reading → List B
read_front list (sheet s tour) = list s tour
read_front list (refused_at number word) = []

abbrev pub read_customers : Reading → List Customer
read_customers r = read_front (λ s tour. s.customers) r

abbrev pub read_distances : Reading → List ℕ
read_distances r = read_front (λ s tour. s.legs.distances) r

abbrev pub read_times : Reading → List ℕ
read_times r = read_front (λ s tour. s.legs.times) r

abbrev pub read_tour : Reading → List ℕ
read_tour r = read_front (λ s tour. tour) r
