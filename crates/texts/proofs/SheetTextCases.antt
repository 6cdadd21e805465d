-- Sheets as text: shown and written back, as a person types them, and each thing that may be wrong with its line and column. Each holds by computation. Assumes nothing.
use Prim.Native.Nat.{ℕ}
use mathlib.Core.Path.{◌≡◌, refl}
use mathlib.Core.List.{List, [], ◌∷◌, ◌++◌}
use Rattle.definitions.specs.Domain.{no_road}
use Rattle.definitions.specs.Words.{Word, word}
use Rattle.definitions.specs.Listing.{text, digits_in}
use Rattle.definitions.specs.Reader.{may_stand, in_range, pair_falls, fault_at, walk}
use Rattle.texts.specs.SheetText.{show_words, records, own, say, number, rows, numbers, step, spell, line_at, column_from, misses, too_large, bad_row, unfinished, refused_by}
use Rattle.texts.specs.SheetText.{written, wrong_at, write_text}

-- what showing and writing are computed through
opened : Unit {0}
unfolding show_words write_text spell step records line_at column_from walk fault_at may_stand in_range pair_falls digits_in
opened = tt

-- ---- shown, and written back

-- case m
m : List Word
m =
    word 1 3 ∷ word 2 4 ∷ word 3 0 ∷ word 6 20 ∷ word 6 30 ∷ word 6 4 ∷ word 7 2 ∷ word 8 0 ∷ word 7 2 ∷ word 8 0
    ∷ word 0xC 0 ∷ word 0xC 10 ∷ word 0xC 12 ∷ word 0xC 10 ∷ word 0xC 0 ∷ word 0xC 5 ∷ word 0xC 12 ∷ word 0xC 5 ∷ word 0xC 0
    ∷ word 0xE 1 ∷ word 0xE 2 ∷ word 0xF 21 ∷ []

abbrev text_m : List ℕ
text_m = text "places 3\ncapacity 4\nfixed cost 0\nbreak from 20 to 30 for 4\ncustomer 1 seats 2 service 0\ncustomer 2 seats 2 service 0\ndistances\n  0 10 12\n  10 0 5\n  12 5 0\ntour 1 2\n"

m-shown : show_words m ≡ text_m
unfolding opened m
m-shown = refl

m-written : write_text text_m ≡ written m
unfolding opened m
m-written = refl

-- all that a sheet may have: both places of wheelchairs, limits, break, windows, penalties, times, a closed leg
every : List Word
every =
    word 1 2 ∷ word 2 4 ∷ word 0 1 ∷ word 3 5 ∷ word 4 90 ∷ word 5 300 ∷ word 6 40 ∷ word 6 60 ∷ word 6 10
    ∷ word 7 1 ∷ word 0 1 ∷ word 8 2 ∷ word 9 0 ∷ word 0xA 30 ∷ word 0xB 3
    ∷ word 0xC 0 ∷ word 0xC 10 ∷ word 0xC no_road ∷ word 0xC 0 ∷ word 0xD 0 ∷ word 0xD 12 ∷ word 0xD no_road ∷ word 0xD 0
    ∷ word 0xE 1 ∷ word 0xF 24 ∷ []

abbrev text_every : List ℕ
text_every =
    text "places 2\ncapacity 4 wheelchairs 1\nfixed cost 5\ndistance limit 90\nduration limit 300\nbreak from 40 to 60 for 10\n"
    ++ text "customer 1 seats 1 wheelchairs 1 service 2 window 0 to 30 penalty 3\ndistances\n  0 10\n  - 0\ntimes\n  0 12\n  - 0\ntour 1\n"

every-shown : show_words every ≡ text_every
unfolding opened every
every-shown = refl

every-written : write_text text_every ≡ written every
unfolding opened every
every-written = refl

-- a tour without a call has its line
depot_alone : List Word
depot_alone = word 1 1 ∷ word 2 0 ∷ word 3 0 ∷ word 0xC 0 ∷ word 0xF 4 ∷ []

alone-shown : show_words depot_alone ≡ text "places 1\ncapacity 0\nfixed cost 0\ndistances\n  0\ntour\n"
unfolding opened depot_alone
alone-shown = refl

-- comments, empty lines, lines that end with \r\n, several records in a line, a record's numbers behind its comment's line, zeros before a number
as-typed : write_text (text "# a depot\r\nplaces 1 capacity 0\tfixed cost 007#five\r\n\r\n distances # one row\n\n 0 # here\n\n tour  # no call")
    ≡ written (word 1 1 ∷ word 2 0 ∷ word 3 7 ∷ word 0xC 0 ∷ word 0xF 4 ∷ [])
unfolding opened
as-typed = refl

-- ---- bad texts

-- nothing: the text ends before the tour
nothing : write_text [] ≡ wrong_at 1 1 unfinished
unfolding opened
nothing = refl

-- a word that opens no record
other_word : write_text (text "places 1\nseats 4\n") ≡ wrong_at 2 1 (misses [])
unfolding opened
other_word = refl

-- `to` and `for` of a break in the wrong order
other-order : write_text (text "places 1\ncapacity 0\nfixed cost 0\nbreak from 1 for 5 to 9\n") ≡ wrong_at 4 14 (misses (say "to" ∷ number 6 ∷ say "for" ∷ number 6 ∷ []))
unfolding opened
other-order = refl

-- a line that ends too early: bad is its end
early-end : write_text (text "places 1\ncapacity 0\nfixed\ncost 5\n") ≡ wrong_at 3 6 (misses (say "cost" ∷ number 3 ∷ []))
unfolding opened
early-end = refl

no_number : write_text (text "places 1\ncapacity 4x\n") ≡ wrong_at 2 10 (misses (number 2 ∷ []))
unfolding opened
no_number = refl

-- another customer's number
other-customer : write_text (text "places 3\ncapacity 4\nfixed cost 0\ncustomer 2 seats 1 service 0\n") ≡ wrong_at 4 10 (misses (own ∷ say "seats" ∷ number 7 ∷ []))
unfolding opened
other-customer = refl

-- no word holds the number
no-such-number : write_text (text "places 1\ncapacity 99999999999999999999\n") ≡ wrong_at 2 10 too_large
unfolding opened
no-such-number = refl

abbrev head_of_two : List ℕ
head_of_two = text "places 2\ncapacity 4\nfixed cost 0\ncustomer 1 seats 1 service 0\n"

-- rows too short, at the end of the line, and too long, at the first number too many
short_row : write_text (head_of_two ++ text "distances\n  0 10\n  10\ntour 1\n") ≡ wrong_at 7 5 (bad_row 0xC 2 1 2)
unfolding opened
short_row = refl

long-row : write_text (head_of_two ++ text "distances\n  0 10 10\n  0\ntour 1\n") ≡ wrong_at 6 8 (bad_row 0xC 1 3 2)
unfolding opened
long-row = refl

-- a table that is left before it is full
short-table : write_text (head_of_two ++ text "distances\n  0 10\ntour 1\n") ≡ wrong_at 7 1 (misses (rows 0xC ∷ []))
unfolding opened
short-table = refl

no-times : write_text (head_of_two ++ text "distances\n 0 10\n 10 0\ntimes\ntour 1\n") ≡ wrong_at 9 1 (misses (rows 0xD ∷ []))
unfolding opened
no-times = refl

-- behind the tour comes nothing
behind-tour : write_text (head_of_two ++ text "distances\n 0 10\n 10 0\ntour 1\nplaces 2\n") ≡ wrong_at 9 1 (misses (numbers 0xE ∷ []))
unfolding opened
behind-tour = refl

-- refused by the reader: a number out of range, a kind that may not stand here, a repeated customer, a falling pair, closures that differ; a bad spelling behind it is not looked at
out_of_range : write_text (text "places 65\ncapacity 4 # and so on\nfixed\n") ≡ wrong_at 1 8 (refused_by 1)
unfolding opened
out_of_range = refl

not-here : write_text (text "places 2\nfixed cost 4\n") ≡ wrong_at 2 12 (refused_by 11)
unfolding opened
not-here = refl

repeated : write_text (head_of_two ++ text "distances\n 0 10\n 10 0\ntour 1 1\n") ≡ wrong_at 8 8 (refused_by 21)
unfolding opened
repeated = refl

falls : write_text (text "places 1\ncapacity 0\nfixed cost 0\nbreak from 5 to 4 for 1\n") ≡ wrong_at 4 17 (refused_by 2)
unfolding opened
falls = refl

closed-once : write_text (head_of_two ++ text "distances\n 0 -\n 10 0\ntimes\n 0 10\n 10 0\ntour 1\n") ≡ wrong_at 9 4 (refused_by 22)
unfolding opened
closed-once = refl

-- the tour before all else has come: bad is the end of the text
too-soon : write_text (text "places 2\ntour\n") ≡ wrong_at 3 1 (refused_by 11)
unfolding opened
too-soon = refl
