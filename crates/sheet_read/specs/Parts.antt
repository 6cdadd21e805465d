-- The parts of the sheet that accepted words say, each number held in a float. Definitions only.
use Rattle.std.specs.Prelude.{ℕ, List, map, replicate, Float, Option, None, Some}
use Rattle.whole.specs.Whole.{fl}
use Rattle.definitions.specs.Sheet.{Window, CustomerOf, depot}
use Rattle.definitions.specs.Words.{words_of}
use Rattle.definitions.specs.Reader.{values_of}
use Rattle.models.specs.Image.{fl_customer}

-- the values of a kind, from the bytes of a file
abbrev pub floats_of : ℕ → List ℕ → List Float
floats_of k bytes = map fl (values_of k (words_of bytes))

-- the window with those ends, if both are given
abbrev pub window_from : Option ℕ → Option ℕ → Option Window
window_from None due = None
window_from (Some ready) None = None
window_from (Some ready) (Some due) = Some (record { ready = ready; due = due })

-- as many records as a sheet may have, each the depot's
abbrev pub depots : List (CustomerOf Float)
depots = replicate 64 (fl_customer depot)
