-- The cut of a sheet that is held and the breaks of its runs, as the plan leaves them in the lists. Assumes nothing.
use Prim.Native.Nat.{ℕ, ◌≤◌}
use native.Mathlib.Omega.{arith}
use mathlib.Core.Path.{◌≡◌, sym, ap, ◌∙◌}
use mathlib.Core.List.{List, map}
use lib.Ieee.{Float}
use lib.ListN.{length, take, length-map}
use Rattle.basics.specs.Options.{value_or}
use Rattle.whole.specs.Whole.{fl}
use Rattle.cut_theory.specs.Tab.{most_cut}
use Rattle.definitions.specs.Sheet.{Sheet}
use Rattle.definitions.specs.Clock.{start_of}
use Rattle.definitions.specs.Placement as Whole
use Rattle.definitions.specs.Drop.{Result, split_by}
use Rattle.definitions.specs.Room.{written}
use Rattle.theorems.proofs.RunListLaws.{RiseTo}
use Rattle.theorems.proofs.Promised.{promised-by}
use Rattle.bounds.proofs.Inside.{sized, few-calls, few-tour, calls-inside}
use Rattle.models.specs.declared.customer.Customer.{Customer}
use Rattle.models.specs.declared.head.Head.{Head}
use Rattle.models.specs.declared.placement.Placement.{Placement}
use Rattle.evaluation.specs.Records.{TakenF, limits_of, lent}
use Rattle.placements.specs.Chosen.{placement_of}
use Rattle.split_tw.specs.declared.answer.SplitResult.{SplitResult}
use Rattle.cut_table.proofs.Fronts.{front, inside, counted}
use Rattle.sheet_loaded.specs.Held.{InMemory}
use Rattle.sheet_loaded.proofs.HeadHeld.{held-limits}
use Rattle.sheet_plan.specs.Breaks.{breaks_f, places_in, starts_in}
use Rattle.sheet_plan.specs.Cut.{CutLists, CutLeft}
use Rattle.sheet_plan.specs.Plan.{Plan, starts_of, plan, PlanLists, Left}
use Rattle.sheet_plan.proofs.CutHeld.{served-are, ends-are}
use Rattle.sheet_plan.proofs.PlanRuns.{placed-are, places-many}
use Rattle.sheet_plan.proofs.PlanRoom.{plan-rises, few-ends, served-and-dropped}
use Rattle.sheet_plan.proofs.BreaksFound.{places-found, starts-found}

-- each run has a start
starts-many : (p : Whole.Placement) (s : Sheet) (tour : List ℕ) → length (split_by p s tour).places ≡ length (starts_of s (split_by p s tour))
starts-many p s tour =
    let P = promised-by s tour p in
    ap length (sym P.places-are) ∙ length-map P.runs (λ r. r.place) ∙ sym (length-map P.runs (λ r. value_or 0 (start_of s r)))
    ∙ ap (λ (rs : List _). length (map (λ r. value_or 0 (start_of s r)) rs)) (sym (placed-are p s tour))

module _ (p : Placement) (s : Sheet) (tour : List ℕ) (head : Head) (customers : List Customer) (distances times : List Float) (H : InMemory s tour head customers distances times)
    {r : SplitResult} {old new : CutLists} (C : CutLeft (split_by (placement_of p) s tour) r old new) where
  abbrev x : Result
  x = split_by (placement_of p) s tour

  -- the breaks of the runs
  abbrev breaks : List TakenF
  breaks = breaks_f (lent customers distances times head.places) (limits_of head.limits) p (take r.served new.served) (take r.runs new.ends)

  places-are : places_in breaks ≡ x.places
  places-are =
      rw (served-are C, ends-are C, held-limits H)
      (places-found p s (sized s H.within) (lent customers distances times head.places) H.tables tour (few-calls s tour H.calls) (calls-inside s tour H.calls))

  starts-are : starts_in breaks ≡ map fl (starts_of s x)
  starts-are =
      rw (served-are C, ends-are C, held-limits H)
      (starts-found p s (sized s H.within) (lent customers distances times head.places) H.tables tour (few-calls s tour H.calls) (calls-inside s tour H.calls))

  -- the run ends rise to the number of served calls
  pub rises : RiseTo 0 (take r.runs new.ends) (length (take r.served new.served))
  rises = rw (served-are C, ends-are C) (plan-rises (placement_of p) s tour)

  -- each run's break has room
  pub ends-room : length (take r.runs new.ends) ≤ most_cut
  ends-room = rw (ends-are C) (omega (arith, few-ends (placement_of p) s tour, served-and-dropped (placement_of p) s tour, few-tour s H.within tour H.calls H.once))

  module _ (before after : PlanLists) (from : before.cut ≡ old) (to : after.cut ≡ new) where
    pub left : after.places ≡ written (places_in breaks) before.places → after.starts ≡ written (starts_in breaks) before.starts → Left (plan (placement_of p) s tour) r before after
    unfolding plan
    left e q =
        record {
          cut = rw (from, to) C;
          places_count = C.runs-count ∙ places-many (placement_of p) s tour;
          starts-count = C.runs-count ∙ places-many (placement_of p) s tour ∙ starts-many (placement_of p) s tour ∙ sym (length-map (starts_of s x) fl);
          places-left = e ∙ ap (λ (l : List ℕ). written l before.places) places-are;
          starts-left = q ∙ ap (λ (l : List Float). written l before.starts) starts-are;
        }

-- ---- what callers of `plan_held` ask for

module _ {p : Plan} {r : SplitResult} {old new : PlanLists} (L : Left p r old new) where
  -- the parts at the front of the lists lie inside them, and are as long as is counted
  pub places-inside : r.runs ≤ length new.places
  places-inside = inside r.runs p.cut.places old.places new.places L.places_count L.places-left

  pub places-counted : r.runs ≡ length (take r.runs new.places)
  places-counted = counted r.runs p.cut.places old.places new.places L.places_count L.places-left

  pub starts-inside : r.runs ≤ length new.starts
  starts-inside = inside r.runs (map fl p.starts) old.starts new.starts L.starts-count L.starts-left

  pub starts-counted : r.runs ≡ length (take r.runs new.starts)
  starts-counted = counted r.runs (map fl p.starts) old.starts new.starts L.starts-count L.starts-left

  -- they are the plan's
  pub break-places-are : take r.runs new.places ≡ p.cut.places
  break-places-are = front r.runs p.cut.places old.places new.places L.places_count L.places-left

  pub break-starts-are : take r.runs new.starts ≡ map fl p.starts
  break-starts-are = front r.runs (map fl p.starts) old.starts new.starts L.starts-count L.starts-left
