-- Cuttings as text, read: the forms of a run's line, lines that are passed over, and bad bytes with their line and column. Each holds by computation. Assumes nothing.
use Prim.Native.Char.{code}
use mathlib.Core.Path.{◌≡◌, refl}
use mathlib.Core.List.{[], ◌∷◌}
use Rattle.definitions.specs.Listing.{text}
use Rattle.texts.specs.CuttingText.{a_customer, a_place, a_start, step, a_line, a_letter, a_number, more, the_end, runs, bad_at, walk, read_cutting}

-- what reading is computed through
opened : Unit {0}
unfolding read_cutting walk step
opened = tt

-- ---- runs

nothing : read_cutting [] ≡ runs [] [] []
unfolding opened
nothing = refl

one-run : read_cutting (text "run 1 2") ≡ runs (1 ∷ 2 ∷ []) (2 ∷ []) (0 ∷ [])
unfolding opened
one-run = refl

-- the start of a break is read, however large, and not used
with_rest : read_cutting (text "run 1 2 rest 2 20\nrun 3\nrun 5 4 rest 1 123456\n") ≡ runs (1 ∷ 2 ∷ 3 ∷ 5 ∷ 4 ∷ []) (2 ∷ 3 ∷ 5 ∷ []) (2 ∷ 0 ∷ 1 ∷ [])
unfolding opened
with_rest = refl

-- what the listing prints for case m, and for a sheet with a drop
listed : read_cutting (text "run 1 2 rest 2 20\ntotal 27 cost 27 served 2 dropped 0\n") ≡ runs (1 ∷ 2 ∷ []) (2 ∷ []) (2 ∷ [])
unfolding opened
listed = refl

dropped : read_cutting (text "run 2\ndrop 1\ntotal 24 cost 24 served 1 dropped 1\n") ≡ runs (2 ∷ []) (1 ∷ []) (0 ∷ [])
unfolding opened
dropped = refl

-- comments, empty lines, lines that end with \r\n, blanks before, between and behind the words, zeros before a number
as-typed : read_cutting (text "# by hand\r\n\r\n  run  007\t63 \r\n\t# no more\n   \n") ≡ runs (7 ∷ 63 ∷ []) (2 ∷ []) (0 ∷ [])
unfolding opened
as-typed = refl

largest : read_cutting (text "run 255 rest 255 0") ≡ runs (255 ∷ []) (1 ∷ []) (255 ∷ [])
unfolding opened
largest = refl

-- ---- bad bytes

-- no such word
other_word : read_cutting (text "run 1\nride 2\n") ≡ bad_at 2 2 (a_letter (code "u"))
unfolding opened
other_word = refl

no-word : read_cutting (text "run 1\n  1 2\n") ≡ bad_at 2 3 a_line
unfolding opened
no-word = refl

-- a refused sheet has no runs
a-refusal : read_cutting (text "refused 21 at 18\n") ≡ bad_at 1 2 (a_letter (code "u"))
unfolding opened
a-refusal = refl

longer-word : read_cutting (text "runs 1\n") ≡ bad_at 1 4 (a_letter (code " "))
unfolding opened
longer-word = refl

-- a line that ends too early: bad is the end of the line
no-calls : read_cutting (text "run\n") ≡ bad_at 1 4 (a_number a_customer)
unfolding opened
no-calls = refl

no_place : read_cutting (text "run 1 2 rest\n") ≡ bad_at 1 13 (a_number a_place)
unfolding opened
no_place = refl

no_start : read_cutting (text "run 1 2 rest 2") ≡ bad_at 1 15 (a_number a_start)
unfolding opened
no_start = refl

-- a number above 255: bad is its digit that makes it so
too-big : read_cutting (text "run 1\n\nrun 12 256\n") ≡ bad_at 3 10 (a_number a_customer)
unfolding opened
too-big = refl

place-too-big : read_cutting (text "run 1 rest 1000 5\n") ≡ bad_at 1 15 (a_number a_place)
unfolding opened
place-too-big = refl

no_number : read_cutting (text "run 1 -2\n") ≡ bad_at 1 7 more
unfolding opened
no_number = refl

behind-the-break : read_cutting (text "run 1 rest 1 20 3\n") ≡ bad_at 1 17 the_end
unfolding opened
behind-the-break = refl
