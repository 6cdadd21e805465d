-- The lists of a cut, at the front of the arrays that they are written to. Assumes nothing.
use Prim.Native.Nat.{ℕ, ◌≤◌}
use mathlib.Core.Path.{◌≡◌, refl}
use mathlib.Core.List.{List}
use lib.ListN.{length, take}
use Rattle.definitions.specs.Room.{written}
use Rattle.cut_table.proofs.Fronts.{front, inside, counted}
use Rattle.split_tw.specs.declared.answer.SplitResult.{SplitResult}
use Rattle.split_tw.specs.Answer.{ResultF, Counted}
use Rattle.test_lists.specs.Answers.{result}

-- three lists, for the served customers, the run ends and the dropped positions
pub record Lists : Type 0 where
  pub served : List ℕ
  pub ends : List ℕ
  pub dropped : List ℕ

-- the cut is counted, and written at the front of the lists
pub record Cuts (x : ResultF) (r : SplitResult) (old new : Lists) : Type 0 where
  pub counts : Counted x r.served r.runs r.dropped r.cost r.distance
  pub served-is : new.served ≡ written x.served old.served
  pub ends-are : new.ends ≡ written x.ends old.ends
  pub dropped-are : new.dropped ≡ written x.dropped old.dropped

module _ {x : ResultF} {r : SplitResult} {old new : Lists} (C : Cuts x r old new) where
  pub served-inside : r.served ≤ length new.served
  served-inside = inside r.served x.served old.served new.served C.counts.served-count C.served-is

  pub served-counted : r.served ≡ length (take r.served new.served)
  served-counted = counted r.served x.served old.served new.served C.counts.served-count C.served-is

  pub ends-inside : r.runs ≤ length new.ends
  ends-inside = inside r.runs x.ends old.ends new.ends C.counts.runs-count C.ends-are

  pub ends-counted : r.runs ≡ length (take r.runs new.ends)
  ends-counted = counted r.runs x.ends old.ends new.ends C.counts.runs-count C.ends-are

  pub dropped-inside : r.dropped ≤ length new.dropped
  dropped-inside = inside r.dropped x.dropped old.dropped new.dropped C.counts.dropped-count C.dropped-are

  pub dropped-counted : r.dropped ≡ length (take r.dropped new.dropped)
  dropped-counted = counted r.dropped x.dropped old.dropped new.dropped C.counts.dropped-count C.dropped-are

  pub cut-is : result (take r.served new.served) (take r.runs new.ends) (take r.dropped new.dropped) r.cost r.distance ≡ x
  cut-is =
      rw (
        front r.served x.served old.served new.served C.counts.served-count C.served-is,
        front r.runs x.ends old.ends new.ends C.counts.runs-count C.ends-are,
        front r.dropped x.dropped old.dropped new.dropped C.counts.dropped-count C.dropped-are,
        C.counts.cost-is,
        C.counts.distance_is,
      )
      refl
