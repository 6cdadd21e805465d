-- What a call is lent, as the code has it, as the record of crates/definitions over floats. Definitions only.
use Rattle.std.specs.Prelude.{ℕ, ◌≡◌, List, map, length, take, Float}
use Rattle.definitions.specs.Sheet.{SheetOf}
use Rattle.definitions.specs.Lent.{Lent}
use Rattle.models.specs.declared.customer.Customer.{Customer}
use Rattle.models.specs.Records.{customer_of, head_of}
use Rattle.models.specs.declared.head.Head.{Head}

abbrev pub sheet_of : Head → List Customer → List Float → List Float → SheetOf Float
sheet_of head customers distances times =
    record {
      head = head_of head;
      customers = map customer_of customers;
      legs = record { distances = distances; times = times };
    }

abbrev pub lent_of : SheetOf Float → (tour calls ends breaks rooms : List ℕ) → Lent Float
lent_of sheet tour calls ends breaks rooms =
    record { sheet = sheet; tour = tour; calls = calls; ends = ends; breaks = breaks; rooms = rooms }

-- ---- for any customers, which stand last

abbrev pub sheet_for : Head → (distances times : List Float) → List Customer → SheetOf Float
sheet_for head distances times customers = sheet_of head customers distances times

abbrev pub lent_for : (List Customer → SheetOf Float) → (tour calls ends breaks rooms : List ℕ) → List Customer → Lent Float
lent_for sheet tour calls ends breaks rooms customers = lent_of (sheet customers) tour calls ends breaks rooms

-- so many customers are lent, and the array of 64 begins with the first of them
pub record Gathered (customers : List Customer) (count : ℕ) (array : List Customer) : Type 0 where
  pub counted : length customers ≡ count
  pub first : take 64 customers ≡ take count array
