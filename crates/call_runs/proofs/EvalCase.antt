-- The evaluation of a run as the code has it, and as the public call answers it on an accepted sheet. Assumes nothing.
use Prim.Native.Nat.{ℕ}
use mathlib.Core.Path.{◌≡◌, refl, sym, ap, ◌∙◌}
use mathlib.Core.List.{List}
use lib.Ieee.{Float}
use Rattle.definitions.specs.Lent.{evaluating}
use Rattle.definitions.specs.Evaluation as Whole
use Rattle.models.specs.declared.customer.Customer.{Customer}
use Rattle.models.specs.declared.placement.Placement.{Placement}
use Rattle.std.specs.Prelude.{Option, None, Some}
use Rattle.evaluation.specs.declared.route.RouteEval.{RouteEval}
use Rattle.evaluation.specs.Records.{lent, limits_of, evaluation_of, evaluated_of}
use Rattle.placements.specs.Chosen.{placement_of}
use Rattle.placements.specs.Placed.{eval_by}
use Rattle.placements.proofs.PlacedExact.{eval-by-exact}
use Rattle.models.specs.declared.head.Head.{Head}
use Rattle.refuse_order.specs.Lent.{sheet_of}
use Rattle.refuse_order.specs.Order.{Refuses, Images}
use Rattle.call_runs.specs.declared.evaluating.Evaluation.{Evaluation}
use Rattle.call_runs.specs.declared.evaluating.Evaluation.TheVariants.{NotAllowed, Allowed}
use Rattle.call_runs.specs.Evaluating.{run_lent, start_in, eval_in, allowed_in, evaluation_in, eval_answer}
use Rattle.call_shared.specs.Answers.{Answers}
use Rattle.call_runs.proofs.RunAnswers.{accepted-run}

-- ---- each case of the code's answer

pub start-in : (x : (Option Float)) → start_in x ≡ x
start-in None = refl
start-in (Some t) = refl

eval-in : (e : RouteEval) → eval_in (evaluation_of e) ≡ e
eval-in e = λ i.
    record {
      distance = e.distance;
      duration = e.duration;
      lateness = e.lateness;
      lateness_cost = e.lateness_cost;
      place = e.place;
      start = start-in e.start i;
    }

module _ (x : (Option RouteEval)) where
  pub not-allowed-in : x ≡ None → NotAllowed ≡ allowed_in (evaluated_of x)
  not-allowed-in h = rw h refl

  pub allowed-in : (e : RouteEval) → x ≡ Some e → Allowed e ≡ allowed_in (evaluated_of x)
  allowed-in e h = rw h (ap Allowed (sym (eval-in e)))

-- ---- on an accepted sheet

module _
    (head : Head) (array : List Customer) (count : ℕ) (distances times : List Float) (run : List ℕ) (p : Placement) (number : ℕ)
    (refuses : Refuses evaluating (λ cs. run_lent head cs distances times run) count array number)
    (images : Images (λ cs. sheet_of head cs distances times) count array number)
  where
    pub evaluated-run : number ≡ 0 → (x : (Option RouteEval)) → evaluated_of x ≡ eval_by (lent array distances times head.places) (limits_of head.limits) p run
        → (r : Evaluation) → r ≡ allowed_in (evaluated_of x) → Answers (λ cs. eval_answer head cs distances times run p) count array r
    evaluated-run z x told r case =
        let t = lent array distances times head.places in
        accepted-run head array count distances times run number refuses images evaluation_in (λ s. Whole.eval_by (placement_of p) s run) z r (λ L. allowed_in (eval_by t L p run))
        (case ∙ ap allowed_in told) (λ s W C I. ap allowed_in (eval-by-exact s W t I run C p))
