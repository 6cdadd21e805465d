-- What is printed of bytes that were read. Assumes nothing.
use Prim.Native.Nat.{ℕ}
use mathlib.Core.Path.{◌≡◌, sym, ap, ◌∙◌}
use mathlib.Core.List.{List}
use Rattle.definitions.specs.Sheet.{Sheet}
use Rattle.definitions.specs.Reader.{Reading, sheet, read}
use Rattle.sheet_read.specs.Summary as Summary
use Rattle.sheet_read.specs.Summary.{summary_of}
use Rattle.sheet_loaded.proofs.Reading.{refused-is}
use Rattle.texts.specs.CuttingText.{CuttingRead, read_cutting}
use Rattle.texts.specs.MarkText.{sheet_refused}
use Rattle.texts.specs.TimesText.{runs_times, sheet_times, times_text}

pub refused-sheet : (bytes cutting : List ℕ) (number word : ℕ) → Summary.refused number word ≡ summary_of (read bytes) → sheet_refused number word ≡ times_text bytes cutting
unfolding times_text
refused-sheet bytes cutting number word e = sym (ap (λ (r : Reading). sheet_times r cutting) (refused-is bytes number word e))

pub told_is : (bytes cutting : List ℕ) (s : Sheet) (tour : List ℕ) → read bytes ≡ sheet s tour → (r : CuttingRead) → read_cutting cutting ≡ r → runs_times s tour r ≡ times_text bytes cutting
unfolding times_text
told_is bytes cutting s tour e r f = sym (ap (λ (x : Reading). sheet_times x cutting) e ∙ ap (runs_times s tour) f)
