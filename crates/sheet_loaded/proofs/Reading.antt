-- What the reader says of accepted and of refused bytes. Assumes nothing.
use Prim.Native.Nat.{ℕ}
use native.Mathlib.Omega.{arith}
use mathlib.Core.Path.{◌≡◌, refl, sym, ap, ◌∙◌}
use mathlib.Core.List.{List, map}
use lib.ListN.{length-map}
use lib.Ieee.{Float}
use Rattle.whole.specs.Whole.{fl}
use Rattle.definitions.specs.Sheet.{HeadOf, Sheet}
use Rattle.definitions.specs.Words.{words_of, left_over}
use Rattle.definitions.specs.Reader.{Reading, sheet, refused_at, read}
use Rattle.definitions.specs.Room.{written}
use Rattle.round_trip.proofs.OnlySheets.{Is, only-sheets}
use Rattle.models.specs.declared.customer.Customer.{Customer}
use Rattle.models.specs.declared.head.Head.{Head}
use Rattle.models.specs.Records.{customer_of, head_of}
use Rattle.models.specs.Image.{fl_customer, fl_sheet}
use Rattle.sheet_read.specs.Summary as Summary
use Rattle.sheet_read.specs.Summary.{Summary, Counted, summary_of}
use Rattle.sheet_read.specs.Parts.{depots}
use Rattle.cut_table.proofs.Fronts.{front}
use Rattle.sheet_loaded.specs.Held.{InMemory, Accepted}

-- ---- the answer

pub is-accepted : (bytes : List ℕ) (c : Counted) → Summary.holds c ≡ summary_of (read bytes) → Accepted bytes
is-accepted bytes c e = go (read bytes) refl e
  where
    go : (r : Reading) → read bytes ≡ r → Summary.holds c ≡ summary_of r → Accepted bytes
    go (sheet s tour) q h = (s, tour, q)
    go (refused_at n w) q h = let z : ◌≡◌ {A = ℕ} 0 1 = cc in absurd (omega arith)

pub refused-is : (bytes : List ℕ) (number word : ℕ) → Summary.refused number word ≡ summary_of (read bytes) → read bytes ≡ refused_at number word
refused-is bytes number word e = go (read bytes) refl e
  where
    go : (r : Reading) → read bytes ≡ r → Summary.refused number word ≡ summary_of r → read bytes ≡ refused_at number word
    go (sheet s tour) q h = let z : ◌≡◌ {A = ℕ} 0 1 = cc in absurd (omega arith)
    go (refused_at n w) q h = let a : number ≡ n = cc in let b : word ≡ w = cc in rw (q, a, b) refl

-- ---- accepted bytes

-- what is found of a sheet; of no sheet, what was found before
abbrev counted_or : Counted → Summary → Counted
counted_or c (Summary.holds d) = d
counted_or c (Summary.refused number word) = c

module _ (bytes : List ℕ) (s : Sheet) (tour : List ℕ) (e : read bytes ≡ sheet s tour) where
  pub found-is : (c : Counted) → Summary.holds c ≡ summary_of (read bytes) → c ≡ counted_or c (summary_of (sheet s tour))
  found-is c f = ap (counted_or c) (f ∙ ap summary_of e)

  is : Is (words_of bytes) (left_over bytes) s tour
  unfolding read
  is = only-sheets (words_of bytes) (left_over bytes) s tour e

  module _ (head : Head) (head-is : head_of head ≡ (fl_sheet s).head) where
    -- the parts of the sheet as they are written
    pub holds : (customers : List Customer) → map customer_of customers ≡ written (map fl_customer s.customers) depots
        → (calls : List ℕ) → calls ≡ tour → (distances times : List Float) → distances ≡ map fl s.legs.distances → times ≡ map fl s.legs.times
        → InMemory s calls head customers distances times
    holds customers c calls t distances times d m =
        record {
          within = is.within;
          calls = rw t is.calls;
          once = rw t is.once;
          tables =
              record {
                size_is = ap (λ (x : HeadOf Float). x.places) head-is;
                distances-are = d;
                times-are = m;
                records-are =
                    front s.head.places (map fl_customer s.customers) depots (map customer_of customers)
                    (sym (length-map s.customers fl_customer ∙ is.within.counted)) c;
              };
          head-is = head-is;
        }
