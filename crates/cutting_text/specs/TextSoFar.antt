-- The definitions' state that the code's counts and lists are. Definitions only.
use Rattle.std.specs.Prelude.{ℕ, ◌+◌, ◌≤◌, List, take, Option, None, Some}
use Rattle.texts.specs.CuttingText as Text
use Rattle.cutting_text.specs.Modes.{mode_of}
use Rattle.cutting_text.specs.declared.read.TextSoFar.{TextSoFar}
use Rattle.cutting_text.specs.declared.read.CuttingRead.{CuttingRead}
use Rattle.cutting_text.specs.declared.read.CuttingRead.TheVariants.{Runs, Bad}

abbrev pub state_of : TextSoFar → (calls ends places : List ℕ) → Text.State
state_of r calls ends places =
    record {
      mode = mode_of r.mode;
      place = r.place;
      calls = take r.calls calls;
      ends = take r.runs ends;
      places = take r.runs places;
    }

abbrev pub stepped_of : Option TextSoFar → (calls ends places : List ℕ) → Option Text.State
stepped_of None calls ends places = None
stepped_of (Some r) calls ends places = Some (state_of r calls ends places)

-- at most so many calls and runs more
abbrev pub More : ℕ → ℕ → TextSoFar → Option TextSoFar → Type 0
More c n r None = Unit {0}
More c n r (Some q) = (q.calls ≤ r.calls + c) × (q.runs ≤ r.runs + n)

-- the answer: calls, ends and places at the front of the lists, or the first bad byte
abbrev pub read_of : CuttingRead → (calls ends places : List ℕ) → Text.CuttingRead
read_of (Runs n m) calls ends places = Text.runs (take n calls) (take m ends) (take m places)
read_of (Bad line column m) calls ends places = Text.bad_at line column (Text.expected (mode_of m))

-- the answer has at most so many calls and runs
abbrev pub Few : ℕ → ℕ → CuttingRead → Type 0
Few c n (Runs calls ends) = (calls ≤ c) × (ends ≤ n)
Few c n (Bad line column m) = Unit {0}
