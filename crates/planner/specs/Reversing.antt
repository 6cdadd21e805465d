-- The contract of the reversal of stretches. Definitions only.
use Rattle.std.specs.Prelude.{ℕ, ◌≡◌, List, length, Float, Option, None, Some}
use Rattle.definitions.specs.Lent.{Lent, reversing}
use Rattle.definitions.specs.Room.{written}
use Rattle.definitions.specs.Answers.{Answer, Improved, front, two_opt_of}
use Rattle.whole.specs.Value.{value}
use Rattle.call_improvers.specs.declared.reversing.Reversed.{Reversed}
use Rattle.call_improvers.specs.declared.reversing.Reversed.TheVariants as Cases
use Rattle.call_improvers.specs.Reversing.{reversal_lent, reversed_in}
use Rattle.planner.specs.Calls.{LentSheet, on, Refused, Untouched}

-- the number by which the answer refuses
abbrev pub reversal_refusal : Reversed → Option ℕ
reversal_refusal (Cases.Refused number) = Some number
reversal_refusal (Cases.Improved run) = None

module _ (q : LentSheet) (run old : List ℕ) where
  -- all that is lent, with the length of the list that is written
  abbrev pub reversal_on : Lent Float
  reversal_on = on q reversal_lent run (length old)

  abbrev pub reversal_answer : Answer Improved
  reversal_answer = two_opt_of value reversal_on

  -- of the answer, and of the list as it is left
  pub record ReversalContract (r : Reversed) (new : List ℕ) : Type 0 where
    -- the complete answer
    pub result : r ≡ reversed_in reversal_answer
    pub calls-left : new ≡ written (front (λ x. x.calls) reversal_answer) old
    -- by which number it is refused, if by one; nothing is written then
    pub refused : Refused reversing reversal_on (reversal_refusal r)
    pub untouched : Untouched (reversal_refusal r) old new
