-- What the cut of a sheet leaves, in whole numbers. Definitions only.
use Rattle.std.specs.Prelude.{ℕ, ◌≡◌, List, length}
use Rattle.whole.specs.Whole.{fl}
use Rattle.definitions.specs.Drop.{Result}
use Rattle.definitions.specs.Room.{written}
use Rattle.split_tw.specs.declared.answer.SplitResult.{SplitResult}

-- the lists that a cut is written to, as they are before or after it
pub record CutLists : Type 0 where
  pub served : List ℕ
  pub ends : List ℕ
  pub dropped : List ℕ

abbrev pub cut_lists : (served ends dropped : List ℕ) → CutLists
cut_lists served ends dropped = record { served = served; ends = ends; dropped = dropped }

-- how many calls are served, runs made and calls dropped, what they come to, and the lists as they are left
pub record CutLeft (x : Result) (r : SplitResult) (old new : CutLists) : Type 0 where
  pub served-count : r.served ≡ length x.served
  pub runs-count : r.runs ≡ length x.ends
  pub dropped-count : r.dropped ≡ length x.dropped
  pub cost-is : r.cost ≡ fl x.cost
  pub distance_is : r.distance ≡ fl x.distance
  pub served-left : new.served ≡ written x.served old.served
  pub ends-left : new.ends ≡ written x.ends old.ends
  pub dropped-left : new.dropped ≡ written x.dropped old.dropped
