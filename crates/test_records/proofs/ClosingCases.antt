-- The closing lines of some runs, computed. Assumes nothing.
use Prim.Native.Nat.{ℕ}
use mathlib.Core.Path.{◌≡◌, refl}
use Rattle.definitions.specs.Listing.{text, digits_in}
use Rattle.test_records.specs.declared.seen.Seen.TheVariants.{Unlike, Missed, End, CutShort, TooLong}
use Rattle.test_records.specs.declared.tally.Tally.{Tally}
use Rattle.test_records.specs.Tally.{nothing_yet, counted_with}
use Rattle.test_records.specs.Closing.{closing}

abbrev tally : (answers wrong noticed unlike first : ℕ) → Tally
tally answers wrong noticed unlike first = record { answers = answers; wrong = wrong; noticed = noticed; unlike = unlike; first = first }

all_alike : closing (tally 654 0 0 0 0) End ≡ text "replayed 654 answers, 0 wrong on purpose, 0 of these noticed, all others alike\n"
unfolding digits_in
all_alike = refl

all-noticed : closing (tally 654 20 20 0 0) End ≡ text "replayed 654 answers, 20 wrong on purpose, 20 of these noticed, all others alike\n"
unfolding digits_in
all-noticed = refl

some-unlike : closing (tally 654 20 20 3 4) End ≡ text "answer 4 is not as it should be\nreplayed 654 answers, 20 wrong on purpose, 20 of these noticed, 3 others unlike\n"
unfolding digits_in
some-unlike = refl

-- a wrong answer that passes is enough
one-missed : closing (counted_with nothing_yet Missed) End ≡ text "answer 1 is not as it should be\nreplayed 1 answers, 1 wrong on purpose, 0 of these noticed, 0 others unlike\n"
unfolding digits_in counted_with
one-missed = refl

cut_short : closing (tally 7 0 0 0 0) CutShort ≡ text "record 8 is cut short\n"
unfolding digits_in
cut_short = refl

unlike-and-too-long : closing (tally 7 0 0 1 3) TooLong ≡ text "answer 3 is not as it should be\nrecord 8 is too long\n"
unfolding digits_in
unlike-and-too-long = refl

too_many : closing (tally 9 0 0 0 0) Unlike ≡ text "record 10 is one too many\n"
unfolding digits_in
too_many = refl
