-- The breaks of the runs of the planner's result, where the placement puts them. Assumes nothing.
use Prim.Native.Nat.{ℕ, ◌≤◌}
use native.Mathlib.Omega.{arith}
use mathlib.Core.Path.{◌≡◌, refl, sym, ap, ap₂, subst, ◌∙◌}
use mathlib.Core.Bool.{true}
use mathlib.Core.List.{List, [], ◌∷◌, map}
use Rattle.std.specs.Prelude.{Option, None, Some, option_map}
use lib.Dec.{eqb}
use lib.Ieee.{Float}
use lib.ListN.{length, length-append}
use borrow.Author.Tests.{eqb-true}
use Rattle.basics.proofs.TestLaws.{both}
use Rattle.basics.specs.Options.{◌>>=◌, holds, value_or}
use Rattle.basics.proofs.OptionLaws.{held, same}
use Rattle.basics.specs.Lists.{All}
use Rattle.whole.specs.Whole.{fl}
use Rattle.definitions.specs.Domain.{most_calls}
use Rattle.definitions.specs.Sheet.{Sheet}
use Rattle.definitions.specs.Run.{Run, Totals, ride, allowed, legal}
use Rattle.definitions.specs.Clock.{start_of}
use Rattle.definitions.specs.Cutting.{calls_in, joined, legal_cutting}
use Rattle.definitions.specs.Placement as Whole
use Rattle.definitions.specs.Placement.{by_clock, by_pay, totals_by}
use Rattle.definitions.specs.Evaluation.{eval_of, route_eval, least_eval, eval_by}
use Rattle.definitions.specs.Drop.{Result, split_by}
use Rattle.theorems.proofs.Legality.{with, legal-has}
use Rattle.theorems.proofs.Placing.{placed_by, totals-own}
use Rattle.theorems.proofs.Promised.{PromiseBy, promised-by}
use Rattle.bounds.specs.Sized.{Sized, Place}
use Rattle.models.specs.declared.placement.Placement.{Placement}
use Rattle.evaluation.specs.Records.{Tables, TakenF}
use Rattle.evaluation.specs.Image.{fl_evaluation, fl_limits, Image}
use Rattle.placements.specs.Chosen.{placement_of}
use Rattle.placements.proofs.PlacedExact.{sized-eval-by-exact}
use Rattle.sheet_plan.specs.Breaks.{taken_in, break_by, breaks_f, places_in, starts_in}
use Rattle.sheet_plan.specs.Plan.{starts_of}
use Rattle.sheet_plan.proofs.PlanRuns.{all_both, runs-are, placed-are, served-few, served-inside}

value-fl : (o : Option ℕ) → value_or (fl 0) (option_map fl o) ≡ fl (value_or 0 o)
value-fl None = refl
value-fl (Some n) = refl

-- the break of a run at its place
abbrev taken : Sheet → Run → TakenF
taken s r = record { place = r.place; start = option_map fl (start_of s r) }

taken_places : (s : Sheet) (runs : List Run) → places_in (map (taken s) runs) ≡ map (λ r. r.place) runs
taken_places s [] = refl
taken_places s (r ∷ rs) = ap (λ (l : List ℕ). r.place ∷ l) (taken_places s rs)

taken-starts : (s : Sheet) (runs : List Run) → starts_in (map (taken s) runs) ≡ map fl (map (λ r. value_or 0 (start_of s r)) runs)
taken-starts s [] = refl
taken-starts s (r ∷ rs) = ap₂ (λ (x : Float) (l : List Float). x ∷ l) (value-fl (start_of s r)) (taken-starts s rs)

-- the evaluation of a run that comes to t, with its break at its place
eval-is : (p : Whole.Placement) (s : Sheet) (calls : List ℕ) → eval_by p s calls ≡ (totals_by p s calls >>= eval_of s calls)
unfolding route_eval least_eval
eval-is by_clock s calls = refl
eval-is by_pay s calls = refl

-- a legal run that has its place by the placement is allowed with the totals that it has there
placed-allowed : (p : Whole.Placement) (s : Sheet) (r : Run) → legal s r ≡ true → (u : Totals) → totals_by p s r.calls ≡ Some u → u.place ≡ r.place → allowed s u ≡ true
placed-allowed p s r h u e q =
    let (t, L) = legal-has s r h in
    let rode : ride s r ≡ Some u = subst (λ (n : ℕ). ride s (with s r.calls n) ≡ Some u) q (totals-own s p r.calls u e).0 in
    subst (λ (v : Totals). allowed s v ≡ true) (same (sym L.rode ∙ rode)) L.kept-limits

module _ (p : Placement) (s : Sheet) (S : Sized s) (t : Tables) (I : Image s t) where
  abbrev placement : Whole.Placement
  placement = placement_of p

  abbrev by : List ℕ → TakenF
  by = break_by t (fl_limits s) p

  break-found : (r : Run) → length r.calls ≤ most_calls → All (Place s) r.calls → legal s r ≡ true → holds (totals_by placement s r.calls) (λ u. eqb u.place r.place) ≡ true
      → by r.calls ≡ taken s r
  unfolding break_by
  break-found r few i h k =
      let u = held (totals_by placement s r.calls) (λ u. eqb u.place r.place) k in
      let q : u.0.place ≡ r.place = eqb-true u.0.place r.place u.2 in
      ap taken_in
      (sized-eval-by-exact s S t I r.calls few i p
      ∙ ap (option_map fl_evaluation) (eval-is placement s r.calls ∙ ap (λ (o : Option Totals). o >>= eval_of s r.calls) u.1))
      ∙ rw (placed-allowed placement s r h u.0 u.1 q, q) refl

  all_found : (runs : List Run) → length (joined runs) ≤ most_calls → All (Place s) (joined runs) → legal_cutting s runs ≡ true → placed_by placement s runs ≡ true
      → map by (calls_in runs) ≡ map (taken s) runs
  all_found [] few i h k = refl
  all_found (r ∷ rs) few i h k =
      let l = both (legal s r) (legal_cutting s rs) h in
      let b = both (holds (totals_by placement s r.calls) (λ u. eqb u.place r.place)) (placed_by placement s rs) k in
      let a = all_both (Place s) r.calls (joined rs) i in
      let n = length-append r.calls (joined rs) in
      ap₂ (λ (x : TakenF) (l : List TakenF). x ∷ l) (break-found r (omega arith) a.0 l.0 b.0) (all_found rs (omega arith) a.1 l.1 b.1)

  module _ (tour : List ℕ) (few : length tour ≤ most_calls) (i : All (Place s) tour) where
    abbrev plan : Result
    plan = split_by placement s tour

    abbrev P : PromiseBy placement s tour plan
    P = promised-by s tour placement

    abbrev breaks : List TakenF
    breaks = breaks_f t (fl_limits s) p plan.served plan.ends

    breaks-are : breaks ≡ map (taken s) P.runs
    breaks-are =
        ap (λ (l : List (List ℕ)). map by l) (runs-are placement s tour)
        ∙ all_found P.runs (served-few placement s tour few) (served-inside placement s tour S i) P.all-legal P.breaks-placed

    pub places-found : places_in breaks ≡ plan.places
    places-found = ap places_in breaks-are ∙ taken_places s P.runs ∙ P.places-are

    pub starts-found : starts_in breaks ≡ map fl (starts_of s plan)
    starts-found =
        ap starts_in breaks-are
        ∙ taken-starts s P.runs
        ∙ ap (λ (rs : List Run). map fl (map (λ r. value_or 0 (start_of s r)) rs)) (sym (placed-are placement s tour))
