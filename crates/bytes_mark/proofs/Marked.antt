-- The marker on the sheet in memory answers what it answers on the sheet of whole numbers. Assumes nothing.
use Prim.Native.Nat.{ℕ}
use mathlib.Core.Path.{◌≡◌, ap, ◌∙◌}
use mathlib.Core.List.{List, []}
use Rattle.std.specs.Prelude.{Some}
use lib.Ieee.{Float}
use Rattle.whole.specs.Value.{value}
use Rattle.definitions.specs.Sheet.{Sheet}
use Rattle.definitions.specs.Lent.{marking}
use Rattle.definitions.specs.RunList.{runs_of}
use Rattle.definitions.specs.Placement.{by_pay}
use Rattle.definitions.specs.Marker as Whole
use Rattle.definitions.specs.Marker.{with_places}
use Rattle.definitions.specs.Answers.{gives, mark_by_of}
use Rattle.theorems.proofs.GivenMarks.{given-never-cheaper}
use Rattle.models.specs.declared.customer.Customer.{Customer}
use Rattle.models.specs.declared.head.Head.{Head}
use Rattle.models.specs.declared.placement.Placement.{Placement}
use Rattle.placements.specs.Chosen.{placement_of}
use Rattle.call_cuts.specs.declared.marking.Marking.{Marking}
use Rattle.call_shared.specs.Answers.{Answers}
use Rattle.call_cuts.specs.Marking.{mark_lent, mark_in}
use Rattle.sheet_loaded.specs.Held.{InMemory}
use Rattle.bytes_mark.specs.Mark.{GivenRuns, marked_on}
use Rattle.bytes_shared.specs.Lent.{lent_with}
use Rattle.bytes_shared.proofs.OnSheet.{first, gathered, answered}

module _ (p : Placement) (s : Sheet) (tour : List ℕ) (head : Head) (array : List Customer) (distances times : List Float) (H : InMemory s tour head array distances times) (given : GivenRuns) where
  -- what the marker answers for the customers at the front of the array
  abbrev marked-here : List Customer → Marking
  marked-here cs = mark_in (mark_by_of value (placement_of p) (mark_lent head cs distances times tour given.calls given.ends given.breaks))

  -- its tour is the one read
  pub marked-on : (visited : List ℕ) → tour ≡ visited → (r : Marking) → Answers marked-here head.places array r → r ≡ mark_in (marked_on (placement_of p) s visited given)
  unfolding marked_on
  marked-on visited e r told =
      told (first s tour head array distances times H) (gathered s tour head array distances times H)
      ∙ ap mark_in
      (answered s tour head array distances times H marking (λ x. Whole.mark_by (placement_of p) x tour (with_places (runs_of given.calls given.ends) given.breaks))
      tour given.calls given.ends given.breaks [])
      ∙ ap (λ (t : List ℕ). mark_in (marked_on (placement_of p) s t given)) e

-- against the plan that pays the least for lateness nothing is Cheaper
pub never-cheaper : (s : Sheet) (tour : List ℕ) (given : GivenRuns) (by : ℕ) → marked_on by_pay s tour given ≡ gives (Whole.cheaper by) → ⊥
unfolding marked_on
never-cheaper s tour given by e = given-never-cheaper Some (lent_with s tour given.calls given.ends given.breaks []) by e
