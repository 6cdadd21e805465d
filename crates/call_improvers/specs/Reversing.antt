-- What the reversal of stretches answers over what it is lent: the enum's case for each case of the complete answer of crates/definitions,
-- the list, which is stored in bytes, by its length, the distance held in a float. Definitions only.
use Rattle.std.specs.Prelude.{ℕ, List, [], ◌∷◌, length, Float}
use Rattle.definitions.specs.Lent.{Lent}
use Rattle.definitions.specs.Bytes.{stored}
use Rattle.definitions.specs.Answers.{Answer, refused, gives, front, Improved, two_opt_of}
use Rattle.whole.specs.Whole.{fl}
use Rattle.whole.specs.Value.{value}
use Rattle.models.specs.declared.customer.Customer.{Customer}
use Rattle.models.specs.declared.head.Head.{Head}
use Rattle.refuse_order.specs.Lent.{sheet_of, lent_of}
use Rattle.call_improvers.specs.declared.reversing.ImprovedRun.{ImprovedRun}
use Rattle.call_improvers.specs.declared.reversing.Reversed.{Reversed}
use Rattle.call_improvers.specs.declared.reversing.Reversed.TheVariants as Reverseds
use Rattle.call_shared.specs.Answers.{Answers}

-- the sheet, the run, and the length of the list for the improved run's calls
abbrev pub reversal_lent : Head → List Customer → List Float → List Float → List ℕ → ℕ → Lent Float
reversal_lent head customers distances times run improved = lent_of (sheet_of head customers distances times) [] run [] [] (improved ∷ [])

-- the answer for any customers, which stand last
abbrev pub reverse_for : Head → List Float → List Float → (run improved : List ℕ) → List Customer → Answer Improved
reverse_for head distances times run improved customers =
    two_opt_of value (reversal_lent head customers distances times run (length improved))

abbrev pub improved_run_of : Improved → ImprovedRun
improved_run_of x = record { calls = length x.calls; distance = fl x.distance }

abbrev pub reversed_in : Answer Improved → Reversed
reversed_in (refused number) = Reverseds.Refused number
reversed_in (gives x) = Reverseds.Improved (improved_run_of x)

-- the answer, and the lent list as it is left, whatever customers the array was gathered from
pub record Reverses
    (answered : List Customer → Answer Improved) (count : ℕ) (array : List Customer)
    (improved : List ℕ) (r : Reversed) (improved' : List ℕ) : Type 0 where
  pub answer : Answers (λ cs. reversed_in (answered cs)) count array r
  pub calls-left : Answers (λ cs. stored (front (λ x. x.calls) (answered cs)) improved) count array improved'
