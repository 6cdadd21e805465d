-- The parts of the head of a sheet in memory. Assumes nothing.
use Prim.Native.Nat.{ℕ}
use mathlib.Core.Path.{◌≡◌, ap}
use mathlib.Core.List.{List}
use lib.Ieee.{Float}
use Rattle.whole.specs.Whole.{fl}
use Rattle.definitions.specs.Sheet.{HeadOf, Sheet}
use Rattle.models.specs.Load.{space_of}
use Rattle.models.specs.declared.customer.Customer.{Customer}
use Rattle.models.specs.declared.head.Head.{Head}
use Rattle.evaluation.specs.Records.{limits_of}
use Rattle.evaluation.specs.Image.{fl_limits}
use Rattle.sheet_loaded.specs.Held.{InMemory}

module _ {s : Sheet} {tour : List ℕ} {head : Head} {customers : List Customer} {distances times : List Float} (H : InMemory s tour head customers distances times) where
  pub held-capacity : space_of head.capacity ≡ s.head.capacity
  held-capacity = ap (λ (x : HeadOf Float). x.capacity) H.head-is

  pub held-fixed : head.fixed_cost ≡ fl s.head.fixed
  held-fixed = ap (λ (x : HeadOf Float). x.fixed) H.head-is

  pub held-limits : limits_of head.limits ≡ fl_limits s
  held-limits = ap (λ (x : HeadOf Float). record { max_distance = x.max_distance; max_duration = x.max_duration; rest = x.rest }) H.head-is
