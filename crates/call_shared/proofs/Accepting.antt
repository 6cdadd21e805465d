-- A call that gives number 0 is accepted, and one that gives another number is refused by it.
-- On an accepted sheet the array and the tables hold the sheet of whole numbers that is meant. Assumes nothing.
use Prim.Native.Nat.{ℕ, ◌≤◌}
use native.Mathlib.Omega.{arith}
use mathlib.Core.Path.{◌≡◌, refl, sym, ap, ◌∙◌}
use mathlib.Core.Bool.{true}
use mathlib.Core.List.{List, map}
use Rattle.std.specs.Prelude.{Option, None, Some}
use lib.ListN.{length, length-map}
use lib.Ieee.{Float}
use Rattle.basics.specs.Options.{value_or}
use Rattle.definitions.specs.Domain.{is_places}
use Rattle.definitions.specs.Sheet.{SheetOf, Sheet, own}
use Rattle.definitions.specs.Lent.{Lent, whole_sheet, Call}
use Rattle.definitions.specs.Refusals.{refusals, refusal_of}
use Rattle.definitions.specs.Answers.{refused, gives, unless_refused, answer}
use Rattle.theorems.proofs.InOrder.{zero-none}
use Rattle.whole.specs.Value.{value}
use Rattle.models.specs.Image.{fl_sheet}
use Rattle.models.specs.Records.{customer_of}
use Rattle.models.specs.declared.customer.Customer.{Customer}
use Rattle.models.specs.declared.head.Head.{Head}
use Rattle.refuse_order.specs.Lent.{sheet_of, Gathered}
use Rattle.refuse_order.proofs.Ranging.{places-high}
use Rattle.refuse_order.proofs.Deciding.{same-records}
use Rattle.evaluation.specs.Records.{lent, limits_of}
use Rattle.evaluation.specs.Image.{fl_limits, Image}
use Rattle.call_shared.specs.Meant.{sheet_lent}

-- ---- the number

module _ (k : Call) (l : Lent Float) where
  pub accepts : 0 ≡ value_or 0 (refusal_of value k l) → refusal_of value k l ≡ None
  unfolding refusal_of refusals
  accepts h = zero-none (refusals value k l) refl (sym h)

  module _ {A : Type 0} (result : Sheet → A) where
    pub given-exact : refusal_of value k l ≡ None → answer value k result l ≡ gives (result (whole_sheet value l.sheet))
    unfolding answer
    given-exact e = ap (λ (o : Option ℕ). unless_refused o (result (whole_sheet value l.sheet))) e

    pub refused-by : (n : ℕ) → n ≡ value_or 0 (refusal_of value k l) → (n ≡ 0 → ⊥) → answer value k result l ≡ refused n
    unfolding answer
    refused-by n h z = go (refusal_of value k l) h
      where
        go : (o : Option ℕ) → n ≡ value_or 0 o → unless_refused o (result (whole_sheet value l.sheet)) ≡ refused n
        go None e = absurd (z e)
        go (Some m) e = ap refused (sym e)

-- ---- an accepted sheet

module _ (head : Head) (customers : List Customer) (distances times : List Float) where
  abbrev pub lent_sheet : SheetOf Float
  lent_sheet = sheet_of head customers distances times

  abbrev pub meant : Sheet
  meant = sheet_lent head customers distances times

  module _ (count : ℕ) (array : List Customer) (G : Gathered customers count array) (held : own lent_sheet ≡ fl_sheet meant) where
    pub limits-held : limits_of head.limits ≡ fl_limits meant
    limits-held = ap (λ (s : SheetOf Float). record { max_distance = s.head.max_distance; max_duration = s.head.max_duration; rest = s.head.rest }) held

    pub tables-hold : is_places head.places ≡ true → head.places ≤ length (map customer_of customers) → Image meant (lent array distances times head.places)
    unfolding whole_sheet
    tables-hold p enough =
        record {
          size_is = refl;
          distances-are = ap (λ (s : SheetOf Float). s.legs.distances) held;
          times-are = ap (λ (s : SheetOf Float). s.legs.times) held;
          records-are =
              sym
              (same-records customers count array G head.places (places-high head.places p)
              (omega (arith, enough, length-map customers customer_of, G.counted)))
              ∙ ap (λ (s : SheetOf Float). s.customers) held;
        }
