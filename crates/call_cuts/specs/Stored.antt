-- What the two cuts are lent, and how their lists are stored in bytes. Definitions only.
use Rattle.std.specs.Prelude.{ℕ, ◌≡◌, List, length, take, Float}
use Rattle.definitions.specs.Bytes.{stored}
use Rattle.models.specs.declared.customer.Customer.{Customer}
use Rattle.models.specs.declared.head.Head.{Head}
use Rattle.models.specs.declared.placement.Placement.{Placement}
use Rattle.cut_runs.specs.Runs.{Instance, lent}
use Rattle.split.specs.Split.{bare_lent}
use Rattle.split_tw.specs.Answer.{ResultF, Counted}
use Rattle.split_tw.specs.declared.answer.SplitResult.{SplitResult}

-- ---- what is lent

abbrev pub plain_of : Head → List Customer → (distances times : List Float) → Instance
plain_of h customers distances times = bare_lent customers distances times h.places h.capacity h.fixed_cost

abbrev pub timed_of : Head → List Customer → (distances times : List Float) → Placement → Instance
timed_of h customers distances times placement =
    lent customers distances times h.places h.capacity h.fixed_cost h.limits placement

-- ---- the lists that are written: served customers, run ends, dropped positions

pub record CutLists : Type 0 where
  pub served : List ℕ
  pub ends : List ℕ
  pub dropped : List ℕ

abbrev pub cut_lists : (served ends dropped : List ℕ) → CutLists
cut_lists served ends dropped = record { served = served; ends = ends; dropped = dropped }

-- as many numbers as there is room for
abbrev pub stored_in : List ℕ → List ℕ → List ℕ
stored_in numbers old = stored (take (length old) numbers) old

-- the cut is counted, and its lists are stored
pub record CutStored (x : ResultF) (r : SplitResult) (old new : CutLists) : Type 0 where
  pub counts : Counted x r.served r.runs r.dropped r.cost r.distance
  pub served-stored : new.served ≡ stored_in x.served old.served
  pub ends-stored : new.ends ≡ stored_in x.ends old.ends
  pub dropped-stored : new.dropped ≡ stored_in x.dropped old.dropped
