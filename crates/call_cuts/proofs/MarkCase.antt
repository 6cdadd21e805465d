-- On an accepted sheet the mark as the code has it, against the planner's cut of the tour, holds that of the sheet that is meant. Assumes nothing.
use Prim.Native.Nat.{ℕ, ◌≤◌}
use native.Mathlib.Omega.{arith}
use mathlib.Core.Path.{◌≡◌, ap, ◌∙◌}
use mathlib.Core.List.{List, []}
use lib.ListN.{length, take}
use lib.Ieee.{Float}
use Rattle.definitions.specs.Sheet.{Sheet}
use Rattle.definitions.specs.Drop.{Result, split_by}
use Rattle.definitions.specs.Run.{Run}
use Rattle.definitions.specs.Lent.{Lent, marking}
use Rattle.definitions.specs.RunList.{runs_of}
use Rattle.definitions.specs.Marker as Whole
use Rattle.definitions.specs.Marker.{with_places}
use Rattle.theorems.proofs.Accepted.{Accepted}
use Rattle.theorems.proofs.GivenRuns.{with_first, runs-many}
use Rattle.bounds.proofs.Inside.{sized, few-calls}
use Rattle.bounds.proofs.CostBoundLaws.{split-by-fits}
use Rattle.whole.specs.Value.{value}
use Rattle.whole.specs.Whole.{limit}
use Rattle.models.specs.declared.customer.Customer.{Customer}
use Rattle.refuse_order.specs.Lent.{Gathered}
use Rattle.placements.specs.Chosen.{placement_of}
use Rattle.split_tw.specs.Answer.{ResultF}
use Rattle.split_tw.specs.SplitTw.{split_tw_f}
use Rattle.cut_exact.proofs.Image.{fl_result}
use Rattle.marker.specs.declared.verdict.Verdict as Code
use Rattle.marker.specs.RunMark.{Ground, ground_of}
use Rattle.marker.specs.Marks.{mark_f}
use Rattle.marker.specs.Image.{Image, fl_verdict}
use Rattle.marker.proofs.MarkExact.{mark-exact}
use Rattle.call_cuts.specs.Stored.{timed_of}
use Rattle.call_cuts.specs.Marking.{mark_lent, marked_f}
use Rattle.call_cuts.proofs.CutAnswers.{Asked, meant_with, Matches}
use Rattle.call_cuts.proofs.SplitCase.{timed-holds, split-tw-holds}

-- the planner's cut, as the code reckons it
abbrev cut_f : Asked → ResultF
cut_f Q = split_tw_f (timed_of Q.head Q.array Q.distances Q.times Q.placement) Q.tour

-- the runs that are marked, with their break places
pub record Given : Type 0 where
  pub calls : List ℕ
  pub ends : List ℕ
  pub places : List ℕ

-- the mark on a sheet of whole numbers
abbrev pub marked : Asked → Given → Sheet → Whole.Verdict
marked Q R s = Whole.mark_by (placement_of Q.placement) s Q.tour (with_places (runs_of R.calls R.ends) R.places)

-- as the code reckons it, with these break places
abbrev pub mark_by : Asked → Given → List ℕ → Code.Verdict
mark_by Q R places = marked_f Q.head Q.array Q.distances Q.times Q.tour R.calls R.ends places Q.placement

abbrev pub lent_with : Asked → Given → List Customer → Lent Float
lent_with Q R cs = mark_lent Q.head cs Q.distances Q.times Q.tour R.calls R.ends R.places

module _ (Q : Asked) (R : Given) (customers : List Customer) (G : Gathered customers Q.count Q.array)
    (accepted : Accepted value marking (lent_with Q R customers)) (held : Matches Q customers) where
  abbrev s : Sheet
  s = meant_with Q customers

  -- the planner's cut of it
  abbrev plan : Result
  plan = split_by (placement_of Q.placement) s Q.tour

  cut_holds : cut_f Q ≡ fl_result plan
  cut_holds = split-tw-holds marking Q R.calls R.ends R.places [] customers G accepted held

  abbrev ground : Ground
  ground = ground_of Q.array Q.distances Q.times Q.head

  ground-holds : Image s ground
  ground-holds =
      let h = timed-holds marking Q R.calls R.ends R.places [] customers G accepted held in
      record { tables-hold = h.tables-hold; capacity-holds = h.capacity-holds; fixed-holds = h.fixed-holds; limits-hold = h.limits-hold }

  paid : plan.cost ≤ limit
  paid = split-by-fits (placement_of Q.placement) s (sized s accepted.within) Q.tour (few-calls s Q.tour accepted.tour)

  -- with the first of the places, one for each run
  pub mark-holds : (n : ℕ) → length R.ends ≤ n → mark_by Q R (take n R.places) ≡ fl_verdict (marked Q R s)
  mark-holds n many =
      ap (λ (x : ResultF). mark_f ground x.served x.cost R.calls R.ends (take n R.places)) cut_holds
      ∙ mark-exact s accepted.within ground ground-holds plan paid
      R.calls accepted.calls R.ends accepted.runs.ends accepted.runs.some-call (take n R.places)
      ∙ ap (λ (runs : List Run). fl_verdict (Whole.mark_against s plan runs))
      (with_first (runs_of R.calls R.ends) R.places n (omega (arith, many, runs-many 0 R.calls R.ends)))
