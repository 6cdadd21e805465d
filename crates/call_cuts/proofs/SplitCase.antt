-- On an accepted sheet the two ways to cut, as the code has them, hold those of the sheet that is meant. Assumes nothing.
use Prim.Native.Nat.{ℕ}
use mathlib.Core.Path.{◌≡◌, ap}
use mathlib.Core.List.{List}
use lib.Ieee.{Float}
use Rattle.basics.proofs.TestLaws.{not-false}
use Rattle.definitions.specs.Domain.{is_places}
use Rattle.definitions.specs.Sheet.{SheetOf, Sheet}
use Rattle.definitions.specs.Drop.{split, split_by}
use Rattle.definitions.specs.Lent.{Call}
use Rattle.theorems.proofs.Accepted.{Accepted}
use Rattle.whole.specs.Value.{value}
use Rattle.models.specs.declared.customer.Customer.{Customer}
use Rattle.refuse_order.specs.Lent.{sheet_of, lent_of, Gathered}
use Rattle.placements.specs.Chosen.{placement_of}
use Rattle.cut_runs.specs.Runs.{Instance}
use Rattle.split_tw.specs.SplitTw.{split_tw_f}
use Rattle.cut_exact.proofs.Image.{fl_result}
use Rattle.cut_exact.proofs.SplitTwExact.{ImageTw}
use Rattle.cut_exact.proofs.BareImage.{bare-image}
use Rattle.cut_exact.proofs.Exact.{split-exact, split-tw-exact}
use Rattle.call_shared.proofs.Accepting.{limits-held, tables-hold}
use Rattle.call_cuts.specs.Stored.{plain_of, timed_of}
use Rattle.call_cuts.proofs.CutAnswers.{Asked, meant_with, Matches}

module _ (k : Call) (Q : Asked) (calls ends breaks rooms : List ℕ) (customers : List Customer)
    (G : Gathered customers Q.count Q.array)
    (accepted : Accepted value k (lent_of (sheet_of Q.head customers Q.distances Q.times) Q.tour calls ends breaks rooms))
    (held : Matches Q customers) where
  abbrev s : Sheet
  s = meant_with Q customers

  -- what is lent to either
  abbrev plain : Instance
  plain = plain_of Q.head Q.array Q.distances Q.times

  abbrev timed : Instance
  timed = timed_of Q.head Q.array Q.distances Q.times Q.placement

  -- the sheet that is meant stands in it
  pub timed-holds : ImageTw s timed
  timed-holds =
      record {
        tables-hold =
            tables-hold Q.head customers Q.distances Q.times Q.count Q.array G held
            (not-false (is_places Q.head.places) accepted.ranged.places) accepted.customers;
        limits-hold = limits-held Q.head customers Q.distances Q.times Q.count Q.array G held;
        capacity-holds = ap (λ (x : SheetOf Float). x.head.capacity) held;
        fixed-holds = ap (λ (x : SheetOf Float). x.head.fixed) held;
      }

  pub split-holds : split_tw_f plain Q.tour ≡ fl_result (split s Q.tour)
  split-holds =
      let h = Q.head in
      split-exact s accepted.within Q.tour accepted.tour plain
      (bare-image s Q.array Q.distances Q.times h.places h.capacity h.fixed_cost h.limits timed-holds)

  pub split-tw-holds : split_tw_f timed Q.tour ≡ fl_result (split_by (placement_of Q.placement) s Q.tour)
  split-tw-holds = split-tw-exact s accepted.within Q.tour accepted.tour timed timed-holds
