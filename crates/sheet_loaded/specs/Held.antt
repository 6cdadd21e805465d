-- A sheet and its tour as they are held in memory. Definitions only.
use Rattle.std.specs.Prelude.{ℕ, ◌≡◌, false, List, Float}
use Rattle.definitions.specs.Sheet.{Sheet}
use Rattle.definitions.specs.Refusals.{Within, WithinCalls, repeats}
use Rattle.definitions.specs.Reader.{sheet, read}
use Rattle.models.specs.Records.{head_of}
use Rattle.models.specs.Image.{fl_sheet}
use Rattle.models.specs.declared.customer.Customer.{Customer}
use Rattle.models.specs.declared.head.Head.{Head}
use Rattle.evaluation.specs.Records.{lent}
use Rattle.evaluation.specs.Image.{Image}
use Rattle.sheet_read.specs.declared.read.Contents.{Contents}
use Rattle.sheet_read.specs.Summary.{holds, summary_of, held_counts}

-- the sheet is within the limits, and so are the calls of the tour, which repeats no customer; its numbers are held in floats
pub record InMemory (s : Sheet) (tour : List ℕ) (head : Head) (customers : List Customer) (distances times : List Float) : Type 0 where
  pub within : Within s
  pub calls : WithinCalls s tour
  pub once : repeats tour ≡ false
  pub tables : Image s (lent customers distances times head.places)
  pub head-is : head_of head ≡ (fl_sheet s).head

-- there is such a sheet
abbrev pub Held : List ℕ → Head → List Customer → List Float → List Float → Type 0
Held tour head customers distances times = (s : Sheet) × InMemory s tour head customers distances times

-- the bytes are those of a sheet
abbrev pub Accepted : List ℕ → Type 0
Accepted bytes = (s : Sheet) × (tour : List ℕ) × (read bytes ≡ sheet s tour)

-- they are, and this is what the reader found of it
abbrev pub Found : List ℕ → Contents → Type 0
Found bytes found = holds (held_counts found) ≡ summary_of (read bytes)
