-- Refusal 1 in the order in which the code looks: the head, the depot's record, the customers, the tables, the tour, the run list. Assumes nothing.
use Prim.Native.Nat.{ℕ, zero, suc, ◌≤◌, ◌<◌}
use native.Mathlib.Omega.{arith}
use native.Mathlib.Nat.{not-suc-le-zero}
use mathlib.Core.Path.{◌≡◌, refl, ◌∙◌}
use mathlib.Core.Bool.{Bool, true, false, not, ◌||◌, or-false}
use mathlib.Core.List.{List, [], ◌∷◌, map}
use lib.ListN.{length, get_or, take}
use lib.Dec.{leb}
use lib.Ieee.{Float}
use borrow.Author.Tests.{leb-true}
use Rattle.basics.proofs.TestLaws.{and_left, and_right, or_left, not-false}
use Rattle.basics.specs.Tests.{either}
use Rattle.basics.specs.Lists.{any}
use Rattle.definitions.specs.Domain.{is_places, is_capacity, is_number, is_leg}
use Rattle.definitions.specs.Load.{each_of}
use Rattle.definitions.specs.Sheet.{SheetOf}
use Rattle.definitions.specs.Refusals.{unfit, bad_optional, bad_break, bad_customer, bad_depot, bad_tour, bad_run_list}
use Rattle.models.specs.declared.customer.Customer.{Customer}
use Rattle.models.specs.Records.{customer_of}
use Rattle.whole.specs.Value.{value}
use Rattle.models.specs.declared.head.Head.{Head}
use Rattle.refuse_numbers.specs.Rows.{rows_find}
use Rattle.refuse_order.specs.Lent.{sheet_of, lent_of}
use Rattle.refuse_order.specs.Order.{bad_head, by_rows}

-- a head in range has places in range
pub head-places : (s : SheetOf Float) → bad_head s ≡ false → is_places s.head.places ≡ true
unfolding bad_head
head-places s h = not-false (is_places s.head.places) (or_left (not (is_places s.head.places)) (either rest) h)
  where
    rest : List Bool
    rest =
        not (each_of is_capacity s.head.capacity)
        ∷ unfit value is_number s.head.fixed
        ∷ bad_optional value is_number s.head.max_distance
        ∷ bad_optional value is_number s.head.max_duration
        ∷ bad_break value s.head.rest
        ∷ []

pub places-low : (n : ℕ) → is_places n ≡ true → 1 ≤ n
places-low n h = leb-true 1 n (and_left (leb 1 n) (leb n 64) h)

pub places-high : (n : ℕ) → is_places n ≡ true → n ≤ 64
places-high n h = leb-true n 64 (and_right (leb 1 n) (leb n 64) h)

-- the depot's record is the first
first-record : (places : ℕ) (array : List Customer) (d : Customer) → 1 ≤ places → 0 < length array
    → bad_depot value (take places (map customer_of array)) ≡ bad_depot value (customer_of (get_or array 0 d) ∷ [])
first-record zero array d h k = absurd (not-suc-le-zero h)
first-record (suc n) [] d h k = absurd (not-suc-le-zero k)
first-record (suc n) (x ∷ xs) d h k = refl

-- ---- what the code looks at

pub record Seen : Type 0 where
  pub head : Head
  pub array : List Customer
  pub distances : List Float
  pub times : List Float
  pub tour : List ℕ
  pub calls : List ℕ

module _ (g : Seen) where
  -- the head by itself
  abbrev head_alone : SheetOf Float
  head_alone = sheet_of g.head [] [] []

  abbrev places : ℕ
  places = g.head.places

  -- what is asked of all of it
  abbrev range_of : Bool
  range_of = by_rows (lent_of (sheet_of g.head g.array g.distances g.times) g.tour g.calls [] [] [])

  abbrev rows_bad : Bool
  rows_bad = rows_find (unfit value is_leg) places places g.distances g.times

  -- the head is the same with and without customers and tables
  same_head : bad_head (sheet_of g.head g.array g.distances g.times) ≡ bad_head head_alone
  unfolding bad_head
  same_head = refl

  pub head-bad : bad_head head_alone ≡ true → true ≡ range_of
  unfolding by_rows
  head-bad h = rw (same_head ∙ h)

  module _ (h : bad_head head_alone ≡ false) (d : Customer) (full : length g.array ≡ 64) where
    abbrev depot_bad : Bool
    depot_bad = bad_depot value (customer_of (get_or g.array 0 d) ∷ [])

    depot-first : bad_depot value (take places (map customer_of g.array)) ≡ depot_bad
    depot-first = first-record places g.array d (places-low places (head-places head_alone h)) (omega arith)

    pub depot-bad : depot_bad ≡ true → true ≡ range_of
    unfolding by_rows
    depot-bad e = rw (same_head ∙ h, depot-first ∙ e)

    module _ (e : depot_bad ≡ false) where
      abbrev customers_bad : Bool
      customers_bad = any (bad_customer value) (take places (map customer_of g.array))

      pub customer-bad : customers_bad ≡ true → true ≡ range_of
      unfolding by_rows
      customer-bad b = rw (same_head ∙ h, depot-first ∙ e, b)

      module _ (b : customers_bad ≡ false) where
        pub table-bad : rows_bad ≡ true → true ≡ range_of
        unfolding by_rows
        table-bad r = rw (same_head ∙ h, depot-first ∙ e, b, r)

        pub lists-left : rows_bad ≡ false → bad_tour places g.tour || bad_run_list places g.calls ≡ range_of
        unfolding by_rows
        lists-left r = rw (same_head ∙ h, depot-first ∙ e, b, r, or-false (bad_run_list places g.calls))
