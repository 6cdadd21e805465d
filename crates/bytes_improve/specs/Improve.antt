-- What the improvers leave on a sheet of whole numbers, as the code has it. Definitions only.
use Rattle.std.specs.Prelude.{ℕ, ◌≡◌, List, [], ◌∷◌, length, Some}
use Rattle.definitions.specs.Sheet.{Sheet}
use Rattle.definitions.specs.Reader.{sheet, read}
use Rattle.definitions.specs.Answers.{Answer, front, Improved, Eliminated, two_opt_of, eliminate_of}
use Rattle.definitions.specs.Bytes.{stored}
use Rattle.call_improvers.specs.declared.reversing.Reversed.{Reversed}
use Rattle.call_improvers.specs.declared.eliminating.Elimination.{Elimination}
use Rattle.call_improvers.specs.Reversing.{reversed_in}
use Rattle.call_improvers.specs.Eliminating.{elimination_in}
use Rattle.bytes_shared.specs.Lent.{lent_with}

-- runs as two lists: their calls, and where each run ends
pub record Runs : Type 0 where
  pub calls : List ℕ
  pub ends : List ℕ

abbrev pub runs : (calls ends : List ℕ) → Runs
runs calls ends = record { calls = calls; ends = ends }

-- ---- what they answer

-- stretches of the run reversed on the sheet; the list lent for its calls counts by its length
unfoldable pub reversed_on : Sheet → (run lent : List ℕ) → Answer Improved
reversed_on s run lent = two_opt_of Some (lent_with s [] run [] [] (length lent ∷ []))

-- runs emptied into the others on the sheet; the lists lent for what is left count by their lengths
unfoldable pub eliminated_on : Sheet → (given lent : Runs) → Answer Eliminated
eliminated_on s given lent =
    eliminate_of Some (lent_with s [] given.calls given.ends [] (length lent.calls ∷ length lent.ends ∷ []))

-- ---- the code's answer, and the lent lists as they are left

pub record RunLeft (a : Answer Improved) (old : List ℕ) (r : Reversed) (new : List ℕ) : Type 0 where
  pub answer : r ≡ reversed_in a
  pub calls-left : new ≡ stored (front (λ x. x.calls) a) old

pub record RunsLeft (a : Answer Eliminated) (old : Runs) (r : Elimination) (new : Runs) : Type 0 where
  pub answer : r ≡ elimination_in a
  pub calls-left : new.calls ≡ stored (front (λ x. x.calls) a) old.calls
  pub ends-left : new.ends ≡ stored (front (λ x. x.ends) a) old.ends

-- ---- that, on the sheet that the bytes are

abbrev pub SheetReversed : (bytes run old : List ℕ) (r : Reversed) (new : List ℕ) → Type 0
SheetReversed bytes run old r new =
    (s : Sheet) (tour : List ℕ) → read bytes ≡ sheet s tour → RunLeft (reversed_on s run old) old r new

abbrev pub SheetEliminated : (bytes : List ℕ) (given old : Runs) (r : Elimination) (new : Runs) → Type 0
SheetEliminated bytes given old r new =
    (s : Sheet) (tour : List ℕ) → read bytes ≡ sheet s tour → RunsLeft (eliminated_on s given old) old r new
