-- The text of the lists of a sheet's plan is the listing's text of it, and has room in 16,384 bytes. Assumes nothing.
use Prim.Native.Nat.{ℕ, zero, suc, ◌+◌, ◌*◌, ◌≤◌}
use native.Mathlib.Omega.{arith}
use mathlib.Core.Path.{◌≡◌, refl, sym, ap, ap₂, ◌∙◌}
use mathlib.Core.Bool.{true}
use mathlib.Core.List.{List, [], ◌∷◌, ◌++◌, map}
use Rattle.std.specs.Prelude.{Option, None, Some}
use lib.Ieee.{Float}
use lib.ListN.{length, take, length-append}
use Rattle.basics.proofs.TestLaws.{both}
use Rattle.basics.specs.Options.{value_or}
use Rattle.whole.specs.Whole.{fl, limit}
use Rattle.definitions.specs.Domain.{most_calls}
use Rattle.definitions.specs.Sheet.{Sheet}
use Rattle.definitions.specs.Run.{Run, legal}
use Rattle.definitions.specs.RunList.{runs_of}
use Rattle.definitions.specs.Clock.{start_of, arc}
use Rattle.definitions.specs.Placement.{by_clock}
use Rattle.definitions.specs.Cutting.{calls_in, joined, legal_cutting}
use Rattle.definitions.specs.Drop.{Result, split_tw}
use Rattle.definitions.specs.Listing.{text, customers_text, rest_text, end_of_line, run_line, run_lines, drop_lines, total_line, plan_text}
use Rattle.theorems.proofs.RunListLaws.{RiseTo}
use Rattle.theorems.proofs.Promised.{Promise, promised-by}
use Rattle.bounds.specs.Sized.{Sized}
use Rattle.bounds.proofs.Inside.{sized, few-calls}
use Rattle.bounds.proofs.BoundLaws.{start-most}
use Rattle.bounds.proofs.CostBoundLaws.{arc-priced, plan-fits}
use Rattle.models.specs.declared.customer.Customer.{Customer}
use Rattle.models.specs.declared.head.Head.{Head}
use Rattle.models.specs.declared.placement.Placement.TheVariants.{Clock}
use Rattle.split_tw.specs.declared.answer.SplitResult.{SplitResult}
use Rattle.listing_lines.specs.Lines.{start_if, run_text}
use Rattle.listing_lines.specs.Number.{whole_part}
use Rattle.listing_lines.specs.Plan.{runs_text, printed, result_text}
use Rattle.listing_lines.proofs.WholePart.{whole-part-fl}
use Rattle.sheet_loaded.specs.Held.{InMemory}
use Rattle.sheet_plan.specs.Plan.{starts_of, plan, PlanLists, Left}
use Rattle.sheet_plan.proofs.CutHeld.{ends-counted, served-are, ends-are, dropped-are}
use Rattle.sheet_plan.proofs.PlanRuns.{runs-are, placed-are, served-few}
use Rattle.sheet_plan.proofs.PlanRoom.{few-ends, served-and-dropped}
use Rattle.sheet_plan.proofs.Planning.{rises, places-counted, starts-counted, break-places-are, break-starts-are}
use Rattle.theorems.proofs.BreakStarts.{starts-at, no_start}

-- ---- in whole numbers

rest-is : (s : Sheet) (calls : List ℕ) (p : ℕ) → legal s (record { calls = calls; place = p }) ≡ true
    → let o = start_of s (record { calls = calls; place = p }) in rest_text p (start_if p (value_or 0 o)) ≡ rest_text p o
rest-is s calls zero h = rw (no_start s calls) refl
rest-is s calls (suc k) h = rw (starts-at s calls k h).1 refl

line-is : (s : Sheet) (r : Run) → legal s r ≡ true → run_text r.calls r.place (start_if r.place (value_or 0 (start_of s r))) ≡ run_line s r
unfolding run_line
line-is s r h = ap (λ (l : List ℕ). text "run" ++ customers_text r.calls ++ l ++ end_of_line) (rest-is s r.calls r.place h)

-- the starts of the breaks of runs, 0 where there is none
abbrev starts : Sheet → List Run → List ℕ
starts s runs = map (λ r. value_or 0 (start_of s r)) runs

lines_are : (s : Sheet) (runs : List Run) → legal_cutting s runs ≡ true → runs_text (calls_in runs) (map (λ r. r.place) runs) (starts s runs) ≡ run_lines s runs
lines_are s [] h = refl
lines_are s (r ∷ rs) h =
    let b = both (legal s r) (legal_cutting s rs) h in
    ap₂ (λ (x y : List ℕ). x ++ y) (line-is s r b.0) (lines_are s rs b.1)

module _ (s : Sheet) (tour : List ℕ) where
  abbrev x : Result
  x = split_tw s tour

  abbrev P : Promise s tour x
  P = promised-by s tour by_clock

  runs-printed : let runs = runs_of x.served x.ends in runs_text runs x.places (starts_of s x) ≡ run_lines s P.runs
  runs-printed =
      ap (λ (rs : List (List ℕ)). runs_text rs x.places (starts_of s x)) (runs-are by_clock s tour)
      ∙ ap (λ (ps : List ℕ). runs_text (calls_in P.runs) ps (starts_of s x)) (sym P.places-are)
      ∙ ap (λ (rs : List Run). runs_text (calls_in P.runs) (map (λ r. r.place) P.runs) (starts s rs)) (placed-are by_clock s tour)
      ∙ lines_are s P.runs P.all-legal

  -- the text of the plan's lists
  pub text-of-plan : result_text tour (plan by_clock s tour).cut (plan by_clock s tour).starts ≡ plan_text s tour (split_tw s tour)
  unfolding plan result_text plan_text
  text-of-plan =
      ap (λ (l : List ℕ). l ++ drop_lines tour x.dropped ++ total_line x)
      (runs-printed ∙ ap (λ (rs : List Run). run_lines s rs) (sym (placed-are by_clock s tour)))

-- ---- in floats

module _ (s : Sheet) (S : Sized s) where
  start_small : (r : Run) → length r.calls ≤ most_calls → value_or 0 (start_of s r) ≤ limit
  start_small r few = go (start_of s r) refl
    where
      go : (o : Option ℕ) → start_of s r ≡ o → value_or 0 o ≤ limit
      go None e = omega arith
      go (Some v) e = omega (arith, start-most s S r.calls r.place few v e)

  starts-whole : (runs : List Run) → length (joined runs) ≤ most_calls → map whole_part (map fl (starts s runs)) ≡ starts s runs
  starts-whole [] few = refl
  starts-whole (r ∷ rs) few =
      let n = length-append r.calls (joined rs) in
      ap₂ (λ (t : ℕ) (ts : List ℕ). t ∷ ts) (whole-part-fl (value_or 0 (start_of s r)) (start_small r (omega arith))) (starts-whole rs (omega arith))

  module _ (tour : List ℕ) (few : length tour ≤ most_calls) where
    fits : ((split_tw s tour).cost ≤ limit) × ((split_tw s tour).distance ≤ limit)
    unfolding split_tw
    fits = plan-fits (arc s) (arc-priced s S) tour few s S

    plan-starts-whole : map whole_part (map fl (plan by_clock s tour).starts) ≡ (plan by_clock s tour).starts
    unfolding plan
    plan-starts-whole =
        ap (λ (rs : List Run). map whole_part (map fl (starts s rs))) (placed-are by_clock s tour)
        ∙ starts-whole (promised-by s tour by_clock).runs (served-few by_clock s tour few)
        ∙ ap (λ (rs : List Run). starts s rs) (sym (placed-are by_clock s tour))

-- ---- the lists as a plan leaves them

module _ (s : Sheet) (tour : List ℕ) (head : Head) (customers : List Customer) (distances times : List Float) (H : InMemory s tour head customers distances times)
    {r : SplitResult} {old new : PlanLists} (L : Left (plan by_clock s tour) r old new) where
  abbrev served : List ℕ
  served = take r.served new.cut.served

  abbrev ends : List ℕ
  ends = take r.runs new.cut.ends

  abbrev dropped : List ℕ
  dropped = take r.dropped new.cut.dropped

  few : length tour ≤ 128
  few = few-calls s tour H.calls

  pub room : 51 * length ends + 21 * length served + 26 * length dropped + 110 ≤ 16384
  unfolding plan
  room =
      rw (served-are L.cut, ends-are L.cut, dropped-are L.cut)
      (omega (arith, few, served-and-dropped by_clock s tour, few-ends by_clock s tour))

  -- the run ends rise to the number of served calls, and each run has a place and a start
  pub rising : RiseTo 0 ends (length served)
  unfolding plan
  rising = rises Clock s tour head customers distances times H L.cut

  pub breaks-all : (length ends ≤ length (take r.runs new.places)) × (length ends ≤ length (take r.runs new.starts))
  breaks-all = (omega (arith, ends-counted L.cut, places-counted L), omega (arith, ends-counted L.cut, starts-counted L))

  pub planned :
      result_text tour (printed served ends (take r.runs new.places) dropped (whole_part r.distance) (whole_part r.cost)) (map whole_part (take r.runs new.starts))
      ≡ plan_text s tour (split_tw s tour)
  unfolding plan
  planned =
      let S = sized s H.within in
      let f = fits s S tour few in
      rw (
        served-are L.cut,
        ends-are L.cut,
        dropped-are L.cut,
        break-places-are L,
        break-starts-are L,
        L.cut.distance_is,
        L.cut.cost-is,
        whole-part-fl (split_tw s tour).distance f.1,
        whole-part-fl (split_tw s tour).cost f.0,
        plan-starts-whole s S tour few,
      )
      (text-of-plan s tour)
