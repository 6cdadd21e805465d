-- The bytes of a sheet that the program reads are enough: a longer sheet is marked as its first 34,573 bytes are. Assumes nothing.
use Prim.Native.Nat.{ℕ}
use mathlib.Core.Path.{◌≡◌, ap}
use mathlib.Core.List.{List}
use lib.ListN.{take}
use Rattle.definitions.specs.Reader.{Reading}
use Rattle.listing_text.proofs.FirstBytes.{read_first}
use Rattle.texts.specs.MarkText.{sheet_text, mark_text}

pub first-bytes-marked : (bytes cutting : List ℕ) → mark_text (take 34573 bytes) cutting ≡ mark_text bytes cutting
unfolding mark_text
first-bytes-marked bytes cutting = ap (λ (r : Reading). sheet_text r cutting) (read_first bytes)
