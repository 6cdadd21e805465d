-- The contract of an evaluation of a run, whatever it answers. Assumes nothing.
use mathlib.Core.Path.{◌≡◌, refl}
use mathlib.Core.List.{List}
use mathlib.Core.Bool.{Bool}
use Rattle.std.specs.Prelude.{Option, None, Some}
use Prim.Native.Nat.{ℕ}
use Rattle.definitions.specs.Sheet.{Sheet}
use Rattle.definitions.specs.Evaluation.{Evaluation}
use Rattle.definitions.specs.Lent.{evaluating}
use Rattle.definitions.specs.Answers.{Answer, refused, gives, answer}
use Rattle.whole.specs.Value.{value}
use Rattle.call_runs.specs.Evaluating.{feasible_in, cost_in, evaluation_in}
use Rattle.planner.specs.Calls.{LentSheet}
use Rattle.planner.specs.Evaluating.{feasible_refusal, cost_refusal, eval_refusal, run_on, EvaluationContract}
use Rattle.planner.proofs.Refusing.{number_of, refuses}

-- ---- each answer refuses by the number of the complete one

pub same-feasible : (a : Answer Bool) → feasible_refusal (feasible_in a) ≡ number_of a
same-feasible (refused number) = refl
same-feasible (gives feasible) = refl

pub same-cost : (a : Answer (Option ℕ)) → cost_refusal (cost_in a) ≡ number_of a
same-cost (refused number) = refl
same-cost (gives cost) = refl

pub same-eval : (a : Answer (Option Evaluation)) → eval_refusal (evaluation_in a) ≡ number_of a
same-eval (refused number) = refl
same-eval (gives None) = refl
same-eval (gives (Some e)) = refl

module _ {A R : Type 0} (held : Answer A → R) (refusal : R → Option ℕ) (same : (a : Answer A) → refusal (held a) ≡ number_of a) where
  pub kept : (ask : Sheet → List ℕ → A) (q : LentSheet) (run : List ℕ) {r : R} → r ≡ held (answer value evaluating (λ s. ask s run) (run_on q run)) → EvaluationContract ask held refusal q run r
  kept ask q run is = record { result = is; refused = refuses held refusal same evaluating (λ s. ask s run) (run_on q run) is }
