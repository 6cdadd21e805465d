-- The answer of the marker: refused, or the verdict; and what is asked of the lists that it hands on, where it is accepted. Assumes nothing.
use Prim.Native.Nat.{ℕ, ◌≤◌, min}
use native.Mathlib.Omega.{arith}
use mathlib.Core.Path.{◌≡◌, refl, ap, ◌∙◌}
use mathlib.Core.Bool.{false}
use mathlib.Core.List.{List, []}
use lib.ListN.{length, take, length-take}
use borrow.Author.Tests.{ltb-false}
use Rattle.cut_theory.specs.Tab.{most_cut}
use Rattle.definitions.specs.Domain.{most_calls}
use Rattle.definitions.specs.Lent.{marking}
use Rattle.definitions.specs.Refusals.{ends_fall}
use Rattle.definitions.specs.Room.{written}
use Rattle.definitions.specs.Answers.{mark_by_of}
use Rattle.theorems.proofs.Accepted.{Accepted, accepted-few}
use Rattle.cut_stops.specs.Stops.{Below64}
use Rattle.cut_exact.proofs.Exact.{below_64}
use Rattle.bounds.proofs.Inside.{few-calls}
use Rattle.whole.specs.Value.{value}
use Rattle.models.specs.declared.customer.Customer.{Customer}
use Rattle.lending.specs.Padding.{padded}
use Rattle.byte_lists.proofs.Widened.{zeros, first_read, all_there}
use Rattle.placements.specs.Chosen.{placement_of}
use Rattle.refuse_order.specs.Lent.{sheet_of}
use Rattle.refuse_order.specs.Order.{Refuses, Images}
use Rattle.marker.specs.declared.verdict.Verdict as Code
use Rattle.call_cuts.specs.declared.marking.Marking.{Marking}
use Rattle.call_cuts.specs.declared.marking.Marking.TheVariants.{Refused, Verdict}
use Rattle.call_shared.specs.Answers.{Answers}
use Rattle.call_cuts.specs.Marking.{mark_in}
use Rattle.call_cuts.proofs.CutAnswers.{Asked, meant_with}
use Rattle.call_shared.proofs.CallAnswers.{accepted-here, calls-read, refused-call, accepted-call}
use Rattle.call_cuts.proofs.MarkCase.{Given, marked, mark_by, lent_with, mark-holds}

-- the runs R as they stand in arrays
pub record ReadAs (R R' : Given) : Type 0 where
  pub calls_are : R'.calls ≡ R.calls
  pub ends-are : R'.ends ≡ R.ends
  pub places-are : R'.places ≡ take most_calls R.places

module _ (Q : Asked) (R : Given) (number : ℕ) (refuses : Refuses marking (lent_with Q R) Q.count Q.array number) where
  abbrev answered : List Customer → Marking
  answered cs = mark_in (mark_by_of value (placement_of Q.placement) (lent_with Q R cs))

  pub refused-mark : (number ≡ 0 → ⊥) → Answers answered Q.count Q.array (Refused number)
  refused-mark h =
      refused-call marking Q.head Q.array Q.count Q.distances Q.times Q.tour R.calls R.ends R.places [] number refuses mark_in
      (marked Q R) h

  module _ (z : number ≡ 0) (full : length Q.array ≡ 64) where
    abbrev cs : List Customer
    cs = padded Q.count Q.array

    lists-accepted : Accepted value marking (lent_with Q R cs)
    lists-accepted =
        accepted-here marking Q.head Q.array Q.count Q.distances Q.times Q.tour R.calls R.ends R.places [] number refuses z full

    pub tour-fits : (length Q.tour ≤ most_cut) × Below64 Q.tour
    tour-fits =
        let a = lists-accepted in
        (accepted-few value marking (lent_with Q R cs) a, below_64 (meant_with Q cs) a.within Q.tour a.tour)

    few-ends : length R.ends ≤ most_calls
    few-ends = ltb-false most_calls (length R.ends) lists-accepted.runs.few

    -- the runs as they are read into arrays: all calls and ends, and the first of the places
    module _ (calls ends places : List ℕ) (m n k : ℕ) where
      pub read-runs : m ≡ min (length R.calls) (length zeros) → calls ≡ written (take (length zeros) R.calls) zeros
          → n ≡ min (length R.ends) (length zeros) → ends ≡ written (take (length zeros) R.ends) zeros
          → k ≡ min (length R.places) (length zeros) → places ≡ written (take (length zeros) R.places) zeros
          → ReadAs R (record { calls = take m calls; ends = take n ends; places = take k places })
      read-runs m-is calls_are n-is ends-are k-is places-are =
          record {
            calls_are =
                calls-read marking Q.head Q.array Q.count Q.distances Q.times Q.tour R.calls R.ends R.places [] number refuses z full
                calls m m-is calls_are;
            ends-are = all_there R.ends zeros ends n n-is ends-are few-ends;
            places-are = first_read R.places zeros places k k-is places-are;
          }

    module _ (R' : Given) (same : ReadAs R R') where
      pub runs-asked : ((length R'.calls ≤ most_calls) × (length R'.ends ≤ length R'.places)) × (ends_fall 0 R'.ends (length R'.calls) ≡ false)
      runs-asked =
          let a = lists-accepted in
          rw (same.calls_are, same.ends-are, same.places-are)
          ((few-calls (meant_with Q cs) R.calls a.calls, omega (arith, length-take most_calls R.places, few-ends, a.breaks refl)), a.runs.ends)

      -- v is what the code has reckoned of them
      pub given-mark : Images (λ cs. sheet_of Q.head cs Q.distances Q.times) Q.count Q.array number
          → (v : Code.Verdict) → v ≡ mark_by Q R' R'.places → Answers answered Q.count Q.array (Verdict v)
      given-mark images v told =
          accepted-call marking Q.head Q.array Q.count Q.distances Q.times Q.tour R.calls R.ends R.places [] number refuses mark_in
          (marked Q R) images z (Verdict v)
          (λ cs G a held.
          ap Verdict
          (told
          ∙ (λ i. mark_by Q (record { calls = same.calls_are i; ends = same.ends-are i; places = R.places }) (same.places-are i))
          ∙ mark-holds Q R cs G a held most_calls few-ends))
