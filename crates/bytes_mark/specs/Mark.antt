-- The marker's answer on a sheet of whole numbers. Definitions only.
use Rattle.std.specs.Prelude.{ℕ, ◌≡◌, List, [], Some}
use Rattle.definitions.specs.Sheet.{Sheet}
use Rattle.definitions.specs.Reader.{sheet, read}
use Rattle.definitions.specs.Placement.{Placement}
use Rattle.definitions.specs.Marker.{Verdict}
use Rattle.definitions.specs.Answers.{Answer, mark_by_of}
use Rattle.call_cuts.specs.declared.marking.Marking.{Marking}
use Rattle.call_cuts.specs.Marking.{mark_in}
use Rattle.bytes_shared.specs.Lent.{lent_with}

-- the runs given: their calls, where each run ends, and its break place, from 1, or 0 for none
pub record GivenRuns : Type 0 where
  pub calls : List ℕ
  pub ends : List ℕ
  pub breaks : List ℕ

abbrev pub given_runs : (calls ends breaks : List ℕ) → GivenRuns
given_runs calls ends breaks = record { calls = calls; ends = ends; breaks = breaks }

-- their mark against the plan of the sheet's tour, for either placement of its breaks
unfoldable pub marked_on : Placement → Sheet → (tour : List ℕ) → GivenRuns → Answer Verdict
marked_on p s tour given = mark_by_of Some p (lent_with s tour given.calls given.ends given.breaks [])

-- the code's answer is that, on the sheet that the bytes are
abbrev pub SheetMarked : Placement → (bytes : List ℕ) → GivenRuns → Marking → Type 0
SheetMarked p bytes given r = (s : Sheet) (tour : List ℕ) → read bytes ≡ sheet s tour → r ≡ mark_in (marked_on p s tour given)
