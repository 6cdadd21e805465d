-- The contracts of the improvers' calls, over the bytes and the lists that they are lent. Definitions only.
use Rattle.std.specs.Prelude.{ℕ, ◌≡◌, List, [], ◌∷◌, length, Float}
use Rattle.whole.specs.Whole.{fl}
use Rattle.definitions.specs.Reader.{read}
use Rattle.definitions.specs.Answers.{Improved, Eliminated}
use Rattle.bytes_improve.specs.Improve.{Runs, reversed_on, eliminated_on}
use Rattle.exports.specs.Answer.{Answer, Outputs, outputs, Kept, ReadsBack, on_reading}

-- ---- reversal

-- the calls of a run, and its distance
pub record ReverseLists : Type 0 where
  pub calls : List ℕ
  pub distance : Float

abbrev pub reverse_outputs : (word : ℕ) (calls : List ℕ) (distance : Float) → Outputs ReverseLists
reverse_outputs word calls distance = outputs word record { calls = calls; distance = distance }

-- the complete answer: stretches of the run reversed on the sheet that the bytes are
unfoldable pub reverse_answer : (bytes run : List ℕ) → ReverseLists → Answer Improved
reverse_answer bytes run lent = on_reading (λ s tour. reversed_on s run lent.calls) (read bytes)

pub record ReverseWritten (x : Improved) (old new : ReverseLists) : Type 0 where
  pub calls : ReadsBack x.calls old.calls new.calls
  pub distance : new.distance ≡ fl x.distance

abbrev pub ReverseKept : (bytes run : List ℕ) (old : Outputs ReverseLists) (r : ℕ) (new : Outputs ReverseLists) → Type 0
ReverseKept bytes run old r new = Kept ReverseWritten (reverse_answer bytes run old.room) old r new

-- ---- elimination

-- the runs that are left, and how many calls and runs these are
pub record EliminateLists : Type 0 where
  pub left : Runs
  pub counts : List ℕ

abbrev pub eliminate_outputs : (word : ℕ) (left : Runs) (counts : List ℕ) → Outputs EliminateLists
eliminate_outputs word left counts = outputs word record { left = left; counts = counts }

-- the complete answer: runs emptied into the others on the sheet that the bytes are
unfoldable pub eliminate_answer : (bytes : List ℕ) (given : Runs) → EliminateLists → Answer Eliminated
eliminate_answer bytes given lent = on_reading (λ s tour. eliminated_on s given lent.left) (read bytes)

pub record EliminateWritten (x : Eliminated) (old new : EliminateLists) : Type 0 where
  pub calls : ReadsBack x.calls old.left.calls new.left.calls
  pub ends : ReadsBack x.ends old.left.ends new.left.ends
  pub counts : new.counts ≡ length x.calls ∷ length x.ends ∷ []

abbrev pub EliminateKept : (bytes : List ℕ) (given : Runs) (old : Outputs EliminateLists) (r : ℕ) (new : Outputs EliminateLists) → Type 0
EliminateKept bytes given old r new = Kept EliminateWritten (eliminate_answer bytes given old.room) old r new
