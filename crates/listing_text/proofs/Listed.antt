-- The listing of bytes that were read. Assumes nothing.
use Prim.Native.Nat.{ℕ}
use mathlib.Core.Path.{◌≡◌, refl, sym, ap}
use mathlib.Core.List.{List}
use Rattle.definitions.specs.Sheet.{Sheet}
use Rattle.definitions.specs.Drop.{split_tw}
use Rattle.definitions.specs.Reader.{sheet, read}
use Rattle.definitions.specs.Listing.{plan_text, refusal_text, reading_text, listing}
use Rattle.sheet_read.specs.Summary as Summary
use Rattle.sheet_read.specs.Summary.{summary_of}
use Rattle.sheet_loaded.proofs.Reading.{refused-is}

pub is-refused : (bytes : List ℕ) (number word : ℕ) → Summary.refused number word ≡ summary_of (read bytes) → refusal_text number word ≡ listing bytes
unfolding listing
is-refused bytes number word e = sym (ap reading_text (refused-is bytes number word e))

pub is-plan : (bytes : List ℕ) (s : Sheet) (tour : List ℕ) → read bytes ≡ sheet s tour → plan_text s tour (split_tw s tour) ≡ listing bytes
unfolding listing
is-plan bytes s tour e = rw e refl
