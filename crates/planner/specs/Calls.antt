-- What the contracts of the public calls share: what is lent, and what it means to be refused. Definitions only.
use Rattle.std.specs.Prelude.{ℕ, ◌≡◌, List, Float, Option, None, Some}
use Rattle.definitions.specs.Sheet.{Sheet}
use Rattle.definitions.specs.Lent.{Lent, Call}
use Rattle.definitions.specs.Refusals.{refusal_of}
use Rattle.whole.specs.Value.{value}
use Rattle.models.specs.declared.customer.Customer.{Customer}
use Rattle.models.specs.declared.head.Head.{Head}
use Rattle.call_shared.specs.Meant.{sheet_lent}

-- ---- what is lent

-- what every call but the reader is lent: a sheet, as its head and its lists
pub record LentSheet : Type 0 where
  pub head : Head
  pub customers : List Customer
  pub distances : List Float
  pub times : List Float

abbrev pub lent_sheet : Head → List Customer → (distances times : List Float) → LentSheet
lent_sheet head customers distances times = record { head = head; customers = customers; distances = distances; times = times }

-- what depends on the four, of such a sheet
abbrev pub on : {X : Type 0} → LentSheet → (Head → List Customer → List Float → List Float → X) → X
on q f = f q.head q.customers q.distances q.times

-- the sheet of whole numbers that is meant
abbrev pub meant : LentSheet → Sheet
meant q = on q sheet_lent

-- ---- refused

-- the number by which an answer refuses, if it does, is the first in the list of refusals that fits this kind of call and what it is lent
abbrev pub Refused : Call → Lent Float → Option ℕ → Type 0
Refused kind lent number = number ≡ refusal_of value kind lent

-- a call that refuses leaves the lists that it could write as they were
abbrev pub Untouched : {L : Type 0} → Option ℕ → L → L → Type 0
Untouched (Some number) old new = new ≡ old
Untouched None old new = Unit {0}
