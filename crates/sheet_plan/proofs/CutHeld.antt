-- The cut of a sheet that is held, as it is left in the lists. Assumes nothing.
use Prim.Native.Nat.{ℕ, ◌≤◌}
use mathlib.Core.Path.{◌≡◌, ap, ◌∙◌}
use mathlib.Core.List.{List}
use lib.ListN.{length, take}
use lib.Ieee.{Float}
use Rattle.definitions.specs.Sheet.{Sheet}
use Rattle.definitions.specs.Drop.{Result, split_by}
use Rattle.definitions.specs.Room.{written}
use Rattle.models.specs.declared.customer.Customer.{Customer}
use Rattle.models.specs.declared.head.Head.{Head}
use Rattle.models.specs.declared.placement.Placement.{Placement}
use Rattle.placements.specs.Chosen.{placement_of}
use Rattle.split_tw.specs.declared.answer.SplitResult.{SplitResult}
use Rattle.split_tw.specs.Answer.{ResultF, Counted}
use Rattle.cut_runs.specs.Runs.{Instance, lent}
use Rattle.split_tw.specs.SplitTw.{split_tw_f}
use Rattle.cut_exact.proofs.Image.{fl_result}
use Rattle.cut_exact.proofs.Exact.{split-tw-exact}
use Rattle.cut_table.proofs.Fronts.{front, inside, counted}
use Rattle.sheet_loaded.specs.Held.{InMemory}
use Rattle.sheet_loaded.proofs.HeadHeld.{held-capacity, held-fixed, held-limits}
use Rattle.sheet_plan.specs.Cut.{CutLists, CutLeft}

-- ---- what callers of `cut_held` ask for

module _ {x : Result} {r : SplitResult} {old new : CutLists} (C : CutLeft x r old new) where
  -- the parts at the front of the lists lie inside them, and are as long as is counted
  pub served-inside : r.served ≤ length new.served
  served-inside = inside r.served x.served old.served new.served C.served-count C.served-left

  pub served-counted : r.served ≡ length (take r.served new.served)
  served-counted = counted r.served x.served old.served new.served C.served-count C.served-left

  pub ends-inside : r.runs ≤ length new.ends
  ends-inside = inside r.runs x.ends old.ends new.ends C.runs-count C.ends-left

  pub ends-counted : r.runs ≡ length (take r.runs new.ends)
  ends-counted = counted r.runs x.ends old.ends new.ends C.runs-count C.ends-left

  pub dropped-inside : r.dropped ≤ length new.dropped
  dropped-inside = inside r.dropped x.dropped old.dropped new.dropped C.dropped-count C.dropped-left

  pub dropped-counted : r.dropped ≡ length (take r.dropped new.dropped)
  dropped-counted = counted r.dropped x.dropped old.dropped new.dropped C.dropped-count C.dropped-left

  -- they are the result's
  pub served-are : take r.served new.served ≡ x.served
  served-are = front r.served x.served old.served new.served C.served-count C.served-left

  pub ends-are : take r.runs new.ends ≡ x.ends
  ends-are = front r.runs x.ends old.ends new.ends C.runs-count C.ends-left

  pub dropped-are : take r.dropped new.dropped ≡ x.dropped
  dropped-are = front r.dropped x.dropped old.dropped new.dropped C.dropped-count C.dropped-left

-- ---- the cut

module _ (p : Placement) (s : Sheet) (tour : List ℕ) (head : Head) (customers : List Customer) (distances times : List Float) (H : InMemory s tour head customers distances times) where
  -- on floats
  abbrev on : Instance
  on = lent customers distances times head.places head.capacity head.fixed_cost head.limits p

  abbrev cut : ResultF
  cut = split_tw_f on tour

  same : cut ≡ fl_result (split_by (placement_of p) s tour)
  same =
      split-tw-exact s H.within tour H.calls on
      (record { tables-hold = H.tables; capacity-holds = held-capacity H; fixed-holds = held-fixed H; limits-hold = held-limits H })

  pub cut_left : (r : SplitResult) (old new : CutLists) → Counted cut r.served r.runs r.dropped r.cost r.distance
      → new.served ≡ written cut.served old.served → new.ends ≡ written cut.ends old.ends → new.dropped ≡ written cut.dropped old.dropped
      → CutLeft (split_by (placement_of p) s tour) r old new
  cut_left r old new N e f g =
      record {
        served-count = N.served-count ∙ ap (λ (x : ResultF). length x.served) same;
        runs-count = N.runs-count ∙ ap (λ (x : ResultF). length x.ends) same;
        dropped-count = N.dropped-count ∙ ap (λ (x : ResultF). length x.dropped) same;
        cost-is = N.cost-is ∙ ap (λ (x : ResultF). x.cost) same;
        distance_is = N.distance_is ∙ ap (λ (x : ResultF). x.distance) same;
        served-left = e ∙ ap (λ (x : ResultF). written x.served old.served) same;
        ends-left = f ∙ ap (λ (x : ResultF). written x.ends old.ends) same;
        dropped-left = g ∙ ap (λ (x : ResultF). written x.dropped old.dropped) same;
      }
