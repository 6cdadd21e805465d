-- The contract of route elimination. Definitions only.
use Rattle.std.specs.Prelude.{ℕ, ◌≡◌, List, length, Float, Option, None, Some}
use Rattle.definitions.specs.Lent.{Lent, eliminating}
use Rattle.definitions.specs.Room.{written}
use Rattle.definitions.specs.Bytes.{numbers_of}
use Rattle.definitions.specs.Answers.{Answer, Eliminated, front, eliminate_of}
use Rattle.whole.specs.Value.{value}
use Rattle.call_improvers.specs.declared.eliminating.Elimination.{Elimination}
use Rattle.call_improvers.specs.declared.eliminating.Elimination.TheVariants as Cases
use Rattle.call_improvers.specs.Eliminating.{elimination_lent, elimination_in}
use Rattle.planner.specs.Calls.{LentSheet, on, Refused, Untouched}

-- the number by which the answer refuses
abbrev pub elimination_refusal : Elimination → Option ℕ
elimination_refusal (Cases.Refused number) = Some number
elimination_refusal (Cases.Left left) = None

-- the numbers in the lists that are written: the calls and the run ends that are left
pub record EliminationOutput : Type 0 where
  pub calls : List ℕ
  pub ends : List ℕ

-- which are lent in bytes
abbrev pub elimination_output : (calls ends : List ℕ) → EliminationOutput
elimination_output calls ends = record { calls = numbers_of calls; ends = numbers_of ends }

module _ (q : LentSheet) (calls ends : List ℕ) (old : EliminationOutput) where
  -- all that is lent, with the lengths of the lists that are written
  abbrev pub elimination_on : Lent Float
  elimination_on = on q elimination_lent calls ends (length old.calls) (length old.ends)

  abbrev pub elimination_answer : Answer Eliminated
  elimination_answer = eliminate_of value elimination_on

  -- of the answer, and of the lists as they are left
  pub record EliminationContract (r : Elimination) (new : EliminationOutput) : Type 0 where
    -- the complete answer
    pub result : r ≡ elimination_in elimination_answer
    pub calls-left : new.calls ≡ written (front (λ x. x.calls) elimination_answer) old.calls
    pub ends-left : new.ends ≡ written (front (λ x. x.ends) elimination_answer) old.ends
    -- by which number it is refused, if by one; nothing is written then
    pub refused : Refused eliminating elimination_on (elimination_refusal r)
    pub untouched : Untouched (elimination_refusal r) old new
