-- A call on the sheet that was read into memory answers what it answers on the sheet of whole numbers. Assumes nothing.
use Prim.Native.Nat.{ℕ}
use native.Mathlib.Omega.{arith}
use mathlib.Core.Path.{◌≡◌, sym, ap, ◌∙◌}
use mathlib.Core.List.{List, map}
use Rattle.std.specs.Prelude.{Some}
use lib.ListN.{length, length-map, take}
use lib.Seq.{take_all}
use lib.Ieee.{Float}
use Rattle.basics.proofs.ListLaws.{take-map}
use Rattle.definitions.specs.Sheet.{SheetOf, Sheet}
use Rattle.definitions.specs.Lent.{Call}
use Rattle.definitions.specs.Answers.{answer}
use Rattle.bounds.proofs.Inside.{sized}
use Rattle.whole.specs.Value.{value}
use Rattle.models.specs.declared.customer.Customer.{Customer}
use Rattle.models.specs.declared.head.Head.{Head}
use Rattle.models.specs.Records.{customer_of}
use Rattle.models.specs.Image.{fl_customer, fl_sheet}
use Rattle.refuse_order.specs.Lent.{sheet_of, lent_of, Gathered}
use Rattle.sheet_loaded.specs.Held.{InMemory}
use Rattle.bytes_shared.specs.Lent.{lent_with}
use Rattle.bytes_shared.proofs.InFloats.{whole-answer}

module _ (s : Sheet) (tour : List ℕ) (head : Head) (array : List Customer) (distances times : List Float) (H : InMemory s tour head array distances times) where
  -- the customers at the front of the array
  abbrev pub first : List Customer
  first = take head.places array

  records-are : map customer_of first ≡ map fl_customer s.customers
  records-are =
      sym (take-map customer_of head.places array)
      ∙ ap (λ (n : ℕ). take n (map customer_of array)) H.tables.size_is
      ∙ H.tables.records-are

  many : length first ≡ head.places
  many =
      sym (length-map first customer_of)
      ∙ ap length records-are
      ∙ length-map s.customers fl_customer
      ∙ H.within.counted
      ∙ sym H.tables.size_is

  pub gathered : Gathered first head.places array
  gathered = record { counted = many; first = take_all 64 first (omega (arith, many, H.tables.size_is, (sized s H.within).few-places)) }

  sheet-is : sheet_of head first distances times ≡ fl_sheet s
  sheet-is =
      λ i.
      record {
        head = H.head-is i;
        customers = records-are i;
        legs = record { distances = H.tables.distances-are i; times = H.tables.times-are i };
      }

  pub answered : {A : Type 0} (k : Call) (result : Sheet → A) (visited calls ends breaks rooms : List ℕ)
      → answer value k result (lent_of (sheet_of head first distances times) visited calls ends breaks rooms) ≡ answer Some k result (lent_with s visited calls ends breaks rooms)
  answered k result visited calls ends breaks rooms =
      ap (λ (x : SheetOf Float). answer value k result (lent_of x visited calls ends breaks rooms)) sheet-is
      ∙ whole-answer s H.within k result visited calls ends breaks rooms
