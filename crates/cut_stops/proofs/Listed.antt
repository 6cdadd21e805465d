-- The records that lists of numbers stand for: a call's record is read from the lists, and every record is written into them. Assumes nothing.
use Prim.Native.Nat.{ℕ, zero, suc, ◌+◌, ◌<◌, ◌≤◌}
use native.Mathlib.Nat.{zero-add}
use native.Mathlib.Omega.{arith}
use mathlib.Core.Path.{◌≡◌, sym, ap, ◌∙◌}
use mathlib.Core.List.{List}
use lib.ListN.{length, get_or, length-map}
use lib.Seq.{ext_get_or}
use lib.Dec.{eqb}
use lib.Ieee.{Float}
use borrow.Author.Tests.{eqb-true, eqb-false}
use Rattle.basics.proofs.TestLaws.{by-test}
use Rattle.basics.specs.Lists.{count}
use Rattle.basics.proofs.ListLaws.{length-count}
use Rattle.definitions.specs.Sheet.{CustomerOf}
use Rattle.evaluation.specs.Tables.{record_index, blank, record_f}
use Rattle.evaluation.proofs.Reading.{get_d_of}
use Rattle.cut_stops.specs.Stops.{StopF, Numbers, Long, stop_at, Put, records_in, listed}

get_d-count : (a n i : ℕ) → i < n → get_or (count a n) i 0 ≡ a + i
get_d-count a zero i h = absurd (omega arith)
get_d-count a (suc n) zero h = omega arith
get_d-count a (suc n) (suc i) h = get_d-count (suc a) n i (omega arith) ∙ omega arith

many-records : (x : Numbers) → length (records_in x) ≡ 64
unfolding records_in
many-records x = length-map (count 0 64) (λ c. (stop_at x c).customer) ∙ length-count 0 64

-- record number i, of the lists and of the tables
record-at : (x : Numbers) (i : ℕ) → i < 64 → (stop_at x i).customer ≡ get_or (records_in x) i blank
unfolding records_in
record-at x i h =
    let f : ℕ → CustomerOf Float = λ c. (stop_at x c).customer in
    sym (ap f (get_d-count 0 64 i h ∙ zero-add i)) ∙ get_d_of f (count 0 64) i 0 blank (rw (length-count 0 64) h)

-- a call's record
pub listed-record : (x : Numbers) (distances times : List Float) (size c i : ℕ) → i ≡ record_index c → i < 64
    → (stop_at x i).customer ≡ record_f (listed x distances times size) c
unfolding record_f
listed-record x distances times size c i e h = record-at x i h ∙ ap (λ (j : ℕ). get_or (records_in x) j blank) e

-- ---- every record

-- the lists hold the records below n of these
pub record RecordsTo (l : List (CustomerOf Float)) (x : Numbers) (n : ℕ) : Type 0 where
  pub long : Long x
  pub records-are : (c : ℕ) → c < n → (stop_at x c).customer ≡ get_or l c blank

-- one more is put
pub records-more : (l : List (CustomerOf Float)) (x new : Numbers) (n : ℕ) (s : StopF) → RecordsTo l x n → Put x n s new → s.customer ≡ get_or l n blank
    → RecordsTo l new (n + 1)
records-more l x new n s W P es =
    let customer : StopF → CustomerOf Float = λ y. y.customer in
    record {
      long = P.long;
      records-are =
          λ k b.
          by-test (eqb k n) (λ e. rw (eqb-true k n e) (ap customer P.here ∙ es))
          (λ e. ap customer (P.others k (eqb-false k n e)) ∙ W.records-are k (omega (arith, eqb-false k n e)));
    }

-- all are
pub records-all : (l : List (CustomerOf Float)) (x : Numbers) (n : ℕ) → length l ≡ 64 → RecordsTo l x n → 64 ≤ n → records_in x ≡ l
records-all l x n long W h =
    let many : length (records_in x) ≡ 64 = many-records x in
    ext_get_or blank (records_in x) l (many ∙ sym long)
    (λ i b. let k : i < 64 = omega (arith, many) in sym (record-at x i k) ∙ W.records-are i (omega arith))
