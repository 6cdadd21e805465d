-- The contract of the evaluations of a run. Definitions only.
use Rattle.std.specs.Prelude.{ℕ, ◌≡◌, List, Float, Option, None, Some}
use Rattle.definitions.specs.Sheet.{Sheet}
use Rattle.definitions.specs.Evaluation.{route_feasible, eval_by, effective_cost}
use Rattle.definitions.specs.Placement.{Placement}
use Rattle.definitions.specs.Lent.{Lent, evaluating}
use Rattle.definitions.specs.Answers.{Answer, answer}
use Rattle.whole.specs.Value.{value}
use Rattle.call_runs.specs.declared.evaluating.Feasible.{Feasible}
use Rattle.call_runs.specs.declared.evaluating.Feasible.TheVariants as Feasibles
use Rattle.call_runs.specs.declared.evaluating.Cost.{Cost}
use Rattle.call_runs.specs.declared.evaluating.Cost.TheVariants as Costs
use Rattle.call_runs.specs.declared.evaluating.Evaluation.{Evaluation}
use Rattle.call_runs.specs.declared.evaluating.Evaluation.TheVariants as Evaluations
use Rattle.call_runs.specs.Evaluating.{run_lent, feasible_in, cost_in, evaluation_in}
use Rattle.planner.specs.Calls.{LentSheet, on, Refused}

-- ---- the answers: the number by which each refuses

abbrev pub feasible_refusal : Feasible → Option ℕ
feasible_refusal (Feasibles.Refused number) = Some number
feasible_refusal (Feasibles.Answer feasible) = None

abbrev pub cost_refusal : Cost → Option ℕ
cost_refusal (Costs.Refused number) = Some number
cost_refusal (Costs.Answer cost) = None

abbrev pub eval_refusal : Evaluation → Option ℕ
eval_refusal (Evaluations.Refused number) = Some number
eval_refusal Evaluations.NotAllowed = None
eval_refusal (Evaluations.Allowed eval) = None

-- ---- the contract, for what is asked of a run, how an answer holds it, and the number by which the answer refuses

abbrev pub run_on : LentSheet → List ℕ → Lent Float
run_on q run = on q run_lent run

module _ {A R : Type 0} (of : Sheet → List ℕ → A) (held : Answer A → R) (refusal : R → Option ℕ) (q : LentSheet) (run : List ℕ) where
  pub record EvaluationContract (r : R) : Type 0 where
    -- the complete answer
    pub result : r ≡ held (answer value evaluating (λ s. of s run) (run_on q run))
    -- by which number it is refused, if by one
    pub refused : Refused evaluating (run_on q run) (refusal r)

-- whether the run is allowed
abbrev pub FeasibleContract : LentSheet → List ℕ → Feasible → Type 0
FeasibleContract q run r = EvaluationContract route_feasible feasible_in feasible_refusal q run r

-- its cost, infinite where it is not allowed
abbrev pub CostContract : LentSheet → List ℕ → Cost → Type 0
CostContract q run r = EvaluationContract effective_cost cost_in cost_refusal q run r

-- what it comes to, with its break where the placement puts it, if it is allowed
abbrev pub EvalContract : Placement → LentSheet → List ℕ → Evaluation → Type 0
EvalContract p q run r = EvaluationContract (eval_by p) evaluation_in eval_refusal q run r
