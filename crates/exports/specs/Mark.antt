-- The contract of the mark calls, over the bytes and the lists that they are lent. Definitions only.
use Rattle.std.specs.Prelude.{ℕ, ◌≡◌, List, map, Float}
use Rattle.whole.specs.Whole.{fl}
use Rattle.definitions.specs.Placement.{Placement, by_pay}
use Rattle.definitions.specs.Marker.{Verdict, cheaper, verdict_number, verdict_values}
use Rattle.definitions.specs.Reader.{read}
use Rattle.definitions.specs.Room.{written}
use Rattle.bytes_mark.specs.Mark.{GivenRuns, marked_on}
use Rattle.exports.specs.Answer.{Answer, Outputs, outputs, IfGiven, Kept, on_reading}

-- a verdict by its number and values
pub record MarkFigures : Type 0 where
  pub verdict : ℕ
  pub values : List Float

abbrev pub mark_outputs : (word verdict : ℕ) (values : List Float) → Outputs MarkFigures
mark_outputs word verdict values = outputs word record { verdict = verdict; values = values }

-- the complete answer: the runs given, marked against the plan of the sheet that the bytes are, for either placement of its breaks
unfoldable pub mark_answer : Placement → (bytes : List ℕ) → GivenRuns → Answer Verdict
mark_answer p bytes given = on_reading (λ s tour. marked_on p s tour given) (read bytes)

-- a verdict's number, and its values at the front
pub record MarkWritten (v : Verdict) (old new : MarkFigures) : Type 0 where
  pub verdict : new.verdict ≡ verdict_number v
  pub values : new.values ≡ written (map fl (verdict_values v)) old.values

abbrev pub MarkKept : Placement → (bytes : List ℕ) (given : GivenRuns) (old : Outputs MarkFigures) (r : ℕ) (new : Outputs MarkFigures)
    → Type 0
MarkKept p bytes given old r new = Kept MarkWritten (mark_answer p bytes given) old r new

-- against the plan that pays the least for lateness the verdict that is written is never Cheaper
abbrev pub NeverCheaper : (bytes : List ℕ) (given : GivenRuns) (verdict : ℕ) → Type 0
NeverCheaper bytes given verdict = IfGiven (mark_answer by_pay bytes given) (λ _. (by : ℕ) → verdict ≡ verdict_number (cheaper by) → ⊥)
