-- The tests of a call in the groups in which the code makes them. Definitions only.
use Rattle.std.specs.Prelude.{ℕ, ◌≡◌, Bool, not, List, [], ◌∷◌, Float}
use Rattle.basics.specs.Tests.{either}
use Rattle.basics.specs.Options.{value_or}
use Rattle.basics.specs.Lists.{any}
use Rattle.definitions.specs.Domain.{is_places, is_capacity, is_number, is_leg}
use Rattle.definitions.specs.Load.{each_of}
use Rattle.definitions.specs.Sheet.{SheetOf, records, own}
use Rattle.definitions.specs.Lent.{Lent, whole_sheet, Call, call}
use Rattle.definitions.specs.Refusals.{unfit, bad_optional, bad_break, bad_customer, bad_depot, bad_tour, bad_run_list, refusal_of}
use Rattle.whole.specs.Value.{value}
use Rattle.models.specs.Image.{fl_sheet}
use Rattle.models.specs.declared.customer.Customer.{Customer}
use Rattle.refuse_lists.specs.declared.kind.Kind.{Kind}
use Rattle.refuse_lists.specs.Needs.{needs_of}
use Rattle.refuse_order.specs.Lent.{Gathered}
use Rattle.refuse_numbers.specs.Rows.{rows_find}

-- the call of this kind
abbrev pub call_of : Kind → Call
call_of kind = call kind.takes_ends kind.marks kind.improves (needs_of kind.results)

-- refusal 1 of what stands before the customers
unfoldable pub bad_head : SheetOf Float → Bool
bad_head s =
    either
    (not (is_places s.head.places)
    ∷ not (each_of is_capacity s.head.capacity)
    ∷ unfit value is_number s.head.fixed
    ∷ bad_optional value is_number s.head.max_distance
    ∷ bad_optional value is_number s.head.max_duration
    ∷ bad_break value s.head.rest
    ∷ [])

-- refusal 1 with the tables looked at row by row
unfoldable pub by_rows : Lent Float → Bool
by_rows l =
    let s = l.sheet in
    either
    (bad_head s
    ∷ bad_depot value (records s)
    ∷ any (bad_customer value) (records s)
    ∷ rows_find (unfit value is_leg) s.head.places s.head.places s.legs.distances s.legs.times
    ∷ bad_tour s.head.places l.tour
    ∷ bad_run_list s.head.places l.calls
    ∷ [])

-- the number that the call gives, 0 where it accepts, whatever customers the array was gathered from
abbrev pub Refuses : Call → (List Customer → Lent Float) → ℕ → List Customer → ℕ → Type 0
Refuses k lent count array r =
    (customers : List Customer) → Gathered customers count array → r ≡ value_or 0 (refusal_of value k (lent customers))

-- where it accepts, the sheet is the image of the whole numbers that it means
abbrev pub Images : (List Customer → SheetOf Float) → ℕ → List Customer → ℕ → Type 0
Images sheet count array r =
    r ≡ 0 → (customers : List Customer) → Gathered customers count array
    → own (sheet customers) ≡ fl_sheet (whole_sheet value (sheet customers))
