-- An accepted sheet has room in the lists that the reader needs: each part of it is written whole. Assumes nothing.
use Prim.Native.Nat.{ℕ, zero-le, ◌*◌, ◌≤◌}
use native.Mathlib.Omega.{arith}
use native.Mathlib.Nat.{mul-le-mul}
use mathlib.Core.Path.{◌≡◌, ap, ◌∙◌}
use mathlib.Core.List.{List, [], ◌∷◌, map}
use lib.Ieee.{Float}
use lib.ListN.{length, length-map}
use lib.Seq.{take_all}
use Rattle.whole.specs.Whole.{fl}
use Rattle.definitions.specs.Sheet.{Sheet, time_table}
use Rattle.definitions.specs.Words.{words_of, left_over}
use Rattle.definitions.specs.Reader.{Outcome, accepted, refused, sheet, answer, walk, start, read, read_words, sheet_of, tour_of}
use Rattle.round_trip.proofs.OnlySheets.{Is, only-sheets}
use Rattle.bounds.specs.Sized.{Sized}
use Rattle.bounds.proofs.Inside.{sized, few-tour}
use Rattle.models.specs.Image.{fl_customer}
use Rattle.sheet_read.specs.Fitting.{fitting}
use Rattle.sheet_read.specs.Parts.{floats_of, depots}

-- an answer with a sheet has that of the words, and its tour
pub record Said (s t : Sheet) (tour calls : List ℕ) : Type 0 where
  pub sheet-same : t ≡ s
  pub tour-same : calls ≡ tour

said : (o : Outcome) (s t : Sheet) (tour calls : List ℕ) → answer o t calls ≡ sheet s tour → Said s t tour calls
said accepted s t tour calls e = record { sheet-same = cc; tour-same = cc }
said (refused n i) s t tour calls e = let z : ◌≡◌ {A = ℕ} 0 1 = cc in absurd (omega arith)

fits : {A : Type 0} (xs ys old : List A) (n : ℕ) → xs ≡ ys → length ys ≤ n → n ≤ length old → fitting xs old ≡ ys
fits xs ys old n e h l = ap (λ (zs : List _). fitting zs old) e ∙ take_all (length old) ys (omega arith)

-- the times are none, or as many as those that count
few-times : (distances times : List ℕ) → length times ≤ length (time_table distances times)
few-times distances [] = zero-le
few-times distances (t ∷ ts) = omega arith

module _ (bytes : List ℕ) (s : Sheet) (tour : List ℕ) (e : read bytes ≡ sheet s tour) where
  same : Said s (sheet_of (words_of bytes)) tour (tour_of (words_of bytes))
  unfolding read read_words
  same = said (walk start 0 (words_of bytes) (left_over bytes)) s (sheet_of (words_of bytes)) tour (tour_of (words_of bytes)) e

  pub is : Is (words_of bytes) (left_over bytes) s tour
  unfolding read
  is = only-sheets (words_of bytes) (left_over bytes) s tour e

  pub small : Sized s
  small = sized s is.within

  few-legs : s.head.places * s.head.places ≤ 4096
  few-legs = mul-le-mul small.few-places small.few-places

  pub distances-whole : (old : List Float) → 4096 ≤ length old → fitting (floats_of 0xC bytes) old ≡ map fl s.legs.distances
  unfolding sheet_of
  distances-whole old h =
      fits (floats_of 0xC bytes) (map fl s.legs.distances) old 4096 (ap (λ (t : Sheet). map fl t.legs.distances) same.sheet-same)
      (omega (arith, length-map s.legs.distances fl, small.distances-all, few-legs)) h

  pub times-whole : (old : List Float) → 4096 ≤ length old → fitting (floats_of 0xD bytes) old ≡ map fl s.legs.times
  unfolding sheet_of
  times-whole old h =
      fits (floats_of 0xD bytes) (map fl s.legs.times) old 4096 (ap (λ (t : Sheet). map fl t.legs.times) same.sheet-same)
      (omega (arith, length-map s.legs.times fl, few-times s.legs.distances s.legs.times, small.times-all, few-legs)) h

  pub tour-whole : (old : List ℕ) → 63 ≤ length old → fitting (tour_of (words_of bytes)) old ≡ tour
  tour-whole old h = fits (tour_of (words_of bytes)) tour old 63 same.tour-same (few-tour s is.within tour is.calls is.once) h

  pub customers-whole : fitting (map fl_customer (sheet_of (words_of bytes)).customers) depots ≡ map fl_customer s.customers
  customers-whole =
      fits (map fl_customer (sheet_of (words_of bytes)).customers) (map fl_customer s.customers) depots 64 (ap (λ (t : Sheet). map fl_customer t.customers) same.sheet-same)
      (omega (arith, length-map s.customers fl_customer, small.records-all, small.few-places)) (omega arith)
