-- The answer of an evaluation of a run, by the limits of the sheet that is meant. Assumes nothing.
use Prim.Native.Nat.{ℕ, min}
use mathlib.Core.Path.{◌≡◌, ap, ◌∙◌}
use mathlib.Core.List.{List, []}
use lib.ListN.{length, take}
use lib.Ieee.{Float}
use Rattle.basics.proofs.TestLaws.{not-false}
use Rattle.definitions.specs.Domain.{is_places}
use Rattle.definitions.specs.Sheet.{Sheet}
use Rattle.definitions.specs.Lent.{evaluating}
use Rattle.definitions.specs.Refusals.{Within, WithinCalls}
use Rattle.definitions.specs.Room.{written}
use Rattle.definitions.specs.Answers.{Answer, refused, gives, answer}
use Rattle.whole.specs.Value.{value}
use Rattle.models.specs.declared.customer.Customer.{Customer}
use Rattle.models.specs.declared.head.Head.{Head}
use Rattle.byte_lists.proofs.Widened.{zeros}
use Rattle.refuse_order.specs.Lent.{sheet_of}
use Rattle.refuse_order.specs.Order.{Refuses, Images}
use Rattle.evaluation.specs.Records.{LimitsF, lent, limits_of}
use Rattle.evaluation.specs.Image.{fl_limits, Image}
use Rattle.call_runs.specs.Evaluating.{run_lent}
use Rattle.call_shared.specs.Answers.{Answers}
use Rattle.call_shared.proofs.Accepting.{meant, limits-held, tables-hold}
use Rattle.call_shared.proofs.CallAnswers.{calls-read, refused-call, accepted-call}

module _
    (head : Head) (array : List Customer) (count : ℕ) (distances times : List Float) (run : List ℕ) (number : ℕ)
    (refuses : Refuses evaluating (λ cs. run_lent head cs distances times run) count array number)
    (images : Images (λ cs. sheet_of head cs distances times) count array number)
  where
    -- an accepted run stands whole in an array that it is read into
    pub run-read : number ≡ 0 → length array ≡ 64 → (held : List ℕ) (n : ℕ) → n ≡ min (length run) (length zeros) → held ≡ written (take (length zeros) run) zeros → take n held ≡ run
    run-read = calls-read evaluating head array count distances times [] run [] [] [] number refuses

    module _ {A R : Type 0} (of : Answer A → R) (result : Sheet → A) where
      -- of the customers lent
      abbrev whole-answer : List Customer → R
      whole-answer cs = of (answer value evaluating result (run_lent head cs distances times run))

      pub refused-run : (number ≡ 0 → ⊥) → Answers whole-answer count array (of (refused number))
      refused-run h = refused-call evaluating head array count distances times [] run [] [] [] number refuses of result h

      -- r is reckoned from the limits as lent, and by the limits of every sheet of whole numbers that the array and the tables hold it is the answer
      pub accepted-run : number ≡ 0 → (r : R) (by : LimitsF → R) → r ≡ by (limits_of head.limits)
          → ((s : Sheet) → Within s → WithinCalls s run → Image s (lent array distances times head.places) → by (fl_limits s) ≡ of (gives (result s)))
          → Answers whole-answer count array r
      accepted-run z r by told exact =
          accepted-call evaluating head array count distances times [] run [] [] [] number refuses of result images z r (λ cs G a held.
          let few = not-false (is_places head.places) a.ranged.places in
          told
          ∙ ap by (limits-held head cs distances times count array G held)
          ∙ exact (meant head cs distances times) a.within a.calls (tables-hold head cs distances times count array G held few a.customers))
