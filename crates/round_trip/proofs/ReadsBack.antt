-- Reading the words of a sheet within the limits gives that sheet and its tour back.
use Prim.Native.Nat.{ℕ}
use native.Mathlib.Omega.{arith}
use mathlib.Core.Path.{◌≡◌, ap, ◌∙◌}
use mathlib.Core.Bool.{Bool, false}
use mathlib.Core.List.{List}
use lib.ListN.{length, length-append, length-map}
use Rattle.definitions.specs.Sheet.{Sheet}
use Rattle.definitions.specs.Encoding.{body_words, encode}
use Rattle.definitions.specs.Reader.{read_words, sheet}
use Rattle.definitions.specs.Refusals.{Within, WithinCalls, repeats}
use Rattle.round_trip.proofs.Says.{all_words, encode-is, sheet-said, tour-said}
use Rattle.round_trip.proofs.Good.{good-sheet, good-tour}
use Rattle.round_trip.proofs.Accepts.{word_count, all-ok}

-- how many words stand before F
pub body-length : (said : List Bool) (s : Sheet) (tour : List ℕ) → length (body_words said s tour) ≡ word_count said s tour
unfolding body_words
body-length said s tour = simp (length-append, length-map) (omega arith)

pub encode-counted : (said : List Bool) (s : Sheet) (tour : List ℕ) → encode said s tour ≡ all_words said s tour (word_count said s tour)
encode-counted said s tour = encode-is said s tour ∙ ap (all_words said s tour) (body-length said s tour)

-- for every sheet within the limits and tour of it without a repeat, reading their words gives them back, whichever zeros are said
pub reads-back : (said : List Bool) (s : Sheet) (tour : List ℕ) → Within s → WithinCalls s tour → repeats tour ≡ false → read_words (encode said s tour) false ≡ sheet s tour
unfolding read_words
reads-back said s tour W C o =
    let G = good-sheet s W in
    let f = word_count said s tour in
    rw (encode-counted said s tour, all-ok said s tour G (good-tour s.head.places tour C o), sheet-said said s tour f G.first, tour-said said s tour f)
