-- The improvers on the sheet in memory leave what they leave on the sheet of whole numbers. Assumes nothing.
use Prim.Native.Nat.{ℕ}
use mathlib.Core.Path.{◌≡◌, ap, ◌∙◌}
use mathlib.Core.List.{List, [], ◌∷◌}
use Rattle.std.specs.Prelude.{Some}
use lib.ListN.{length}
use lib.Ieee.{Float}
use Rattle.definitions.specs.Sheet.{Sheet}
use Rattle.definitions.specs.Answers as Call
use Rattle.definitions.specs.Lent.{reversing, eliminating}
use Rattle.definitions.specs.RunList.{runs_of}
use Rattle.definitions.specs.Answers.{front, Improved, Eliminated, two_opt, eliminate, two_opt_of}
use Rattle.definitions.specs.Bytes.{stored}
use Rattle.bounds.proofs.InBytes.{InBytes, reversal-in-bytes, elimination-calls-in-bytes, elimination-ends-in-bytes}
use Rattle.whole.specs.Value.{value}
use Rattle.models.specs.declared.customer.Customer.{Customer}
use Rattle.models.specs.declared.head.Head.{Head}
use Rattle.call_improvers.specs.declared.reversing.Reversed.{Reversed}
use Rattle.call_improvers.specs.declared.eliminating.Elimination.{Elimination}
use Rattle.call_shared.specs.Answers.{Answers}
use Rattle.call_improvers.specs.Reversing.{reversal_lent, reversed_in, Reverses}
use Rattle.call_improvers.specs.Eliminating as Checked
use Rattle.call_improvers.specs.Eliminating.{elimination_in, Eliminates}
use Rattle.sheet_loaded.specs.Held.{InMemory}
use Rattle.bytes_improve.specs.Improve.{Runs, reversed_on, eliminated_on, RunLeft, RunsLeft}
use Rattle.bytes_shared.specs.Lent.{lent_with}
use Rattle.bytes_shared.proofs.OnSheet.{first, gathered, answered}

module _ (s : Sheet) (tour : List ℕ) (head : Head) (array : List Customer) (distances times : List Float) (H : InMemory s tour head array distances times) where
  -- what a call says for every list of customers from which the array is gathered, said for those at its front
  said : {R : Type 0} {answer : List Customer → R} {r : R} → Answers answer head.places array r → r ≡ answer (first s tour head array distances times H)
  said told = told (first s tour head array distances times H) (gathered s tour head array distances times H)

  -- ---- the reversal

  abbrev reversing-here : (run lent : List ℕ) → List Customer → Call.Answer Improved
  reversing-here run lent cs = two_opt_of value (reversal_lent head cs distances times run (length lent))

  module _ (run old : List ℕ) (r : Reversed) (new : List ℕ) (R : Reverses (reversing-here run old) head.places array old r new) where
    same-reversed : reversing-here run old (first s tour head array distances times H) ≡ reversed_on s run old
    unfolding reversed_on
    same-reversed = answered s tour head array distances times H reversing (λ x. two_opt x run) [] run [] [] (length old ∷ [])

    pub reversed-on : RunLeft (reversed_on s run old) old r new
    reversed-on =
        record {
          answer = said R.answer ∙ ap reversed_in same-reversed;
          calls-left = said R.calls-left ∙ ap (λ (a : Call.Answer Improved). stored (front (λ x. x.calls) a) old) same-reversed;
        }

  -- ---- the elimination

  abbrev eliminating-here : (given lent : Runs) → List Customer → Call.Answer Eliminated
  eliminating-here given lent cs = Checked.eliminate_answer head cs distances times given.calls given.ends lent.calls lent.ends

  module _ (given old : Runs) (r : Elimination) (new : Runs)
      (E : Eliminates (eliminating-here given old) head.places array old.calls old.ends r new.calls new.ends) where
    same_left : eliminating-here given old (first s tour head array distances times H) ≡ eliminated_on s given old
    unfolding eliminated_on
    same_left =
        answered s tour head array distances times H eliminating (λ x. eliminate x (runs_of given.calls given.ends)) [] given.calls given.ends []
        (length old.calls ∷ length old.ends ∷ [])

    pub eliminated-on : RunsLeft (eliminated_on s given old) old r new
    eliminated-on =
        record {
          answer = said E.answer ∙ ap elimination_in same_left;
          calls-left = said E.calls-left ∙ ap (λ (a : Call.Answer Eliminated). stored (front (λ x. x.calls) a) old.calls) same_left;
          ends-left = said E.ends-left ∙ ap (λ (a : Call.Answer Eliminated). stored (front (λ x. x.ends) a) old.ends) same_left;
        }

-- ---- each number that they leave is one that a byte holds

pub reversed-in-bytes : (s : Sheet) (run lent : List ℕ) → InBytes (front (λ x. x.calls) (reversed_on s run lent))
unfolding reversed_on
reversed-in-bytes s run lent = reversal-in-bytes Some (lent_with s [] run [] [] (length lent ∷ []))

module _ (s : Sheet) (given lent : Runs) where
  pub left-calls-in-bytes : InBytes (front (λ x. x.calls) (eliminated_on s given lent))
  unfolding eliminated_on
  left-calls-in-bytes = elimination-calls-in-bytes Some (lent_with s [] given.calls given.ends [] (length lent.calls ∷ length lent.ends ∷ []))

  pub left-ends-in-bytes : InBytes (front (λ x. x.ends) (eliminated_on s given lent))
  unfolding eliminated_on
  left-ends-in-bytes = elimination-ends-in-bytes Some (lent_with s [] given.calls given.ends [] (length lent.calls ∷ length lent.ends ∷ []))
