-- The reading of a sheet by its outcome: the head and the counts of an accepted one, or the refusal. Assumes nothing.
use Prim.Native.Nat.{ℕ, ◌*◌, ◌≤◌}
use native.Mathlib.Omega.{arith}
use mathlib.Core.Path.{◌≡◌, refl, sym, ap, ◌∙◌}
use Rattle.std.specs.Prelude.{Option, None, Some, unwrap_or}
use Rattle.basics.specs.Options.{value_or}
use lib.Ieee.{Float}
use lib.ListN.{length}
use mathlib.Core.List.{List}
use Rattle.definitions.specs.Sheet.{HeadOf}
use Rattle.definitions.specs.Reader as Reader
use Rattle.definitions.specs.Words.{Word, words_of, left_over}
use Rattle.definitions.specs.Reader.{accepted, sheet, walk, start, read, read_words, values_of, sheet_of, tour_of}
use Rattle.models.specs.Image.{fl_sheet}
use Rattle.sheet_read.specs.Summary.{holds, refused, summary_of}
use Rattle.sheet_read.proofs.Accepted.{is, small}

module _ (bytes : List ℕ) where
  abbrev words : List Word
  words = words_of bytes

  pub read-refused : (number word : ℕ) → Reader.refused number word ≡ walk start 0 words (left_over bytes) → refused number word ≡ summary_of (read bytes)
  unfolding read read_words
  read-refused number word e = rw (← e)

  module _ (e : accepted ≡ walk start 0 words (left_over bytes)) where
    sheet-read : read bytes ≡ sheet (sheet_of words) (tour_of words)
    unfolding read read_words
    sheet-read = rw (← e)

    module _ (head : HeadOf Float) (h : head ≡ (fl_sheet (sheet_of words)).head) where
      same-places : head.places ≡ (sheet_of words).head.places
      same-places = ap (λ (x : HeadOf Float). x.places) h

      pub few-places : head.places ≤ 64
      few-places = omega (arith, same-places, (small bytes (sheet_of words) (tour_of words) sheet-read).few-places)

      -- a customer for each place
      all-customers : head.places ≡ length (sheet_of words).customers
      all-customers = same-places ∙ sym (is bytes (sheet_of words) (tour_of words) sheet-read).within.counted

      -- a distance from each place to each
      all-distances : head.places * head.places ≡ length (sheet_of words).legs.distances
      all-distances =
          ap (λ (n : ℕ). n * n) same-places ∙ sym (small bytes (sheet_of words) (tour_of words) sheet-read).distances-all

      pub read-accepted : (times calls : ℕ) → times ≡ length (values_of 0xD words) → calls ≡ length (values_of 0xE words)
          → holds (record { head = head; customers = head.places; distances = head.places * head.places; times = times; calls = calls })
          ≡ summary_of (read bytes)
      unfolding sheet_of tour_of
      read-accepted times calls t l =
          (λ i. holds (record { head = h i; customers = all-customers i; distances = all-distances i; times = t i; calls = l i }))
          ∙ sym (ap summary_of sheet-read)

-- the library's word for a value or 0 gives what the definitions' gives
pub get_or-value_or : (o : Option ℕ) (d : ℕ) → unwrap_or o d ≡ value_or d o
get_or-value_or None d = refl
get_or-value_or (Some n) d = refl
