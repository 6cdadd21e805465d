-- The number that the code's tests decide, one after the other, is that of the first refusal that fits. Assumes nothing.
use Prim.Native.Nat.{ℕ, zero, suc, ◌≤◌}
use mathlib.Core.Path.{◌≡◌, refl, sym, ap, subst, ◌∙◌}
use mathlib.Core.Bool.{Bool, true, false, ◌&&◌, or_assoc}
use mathlib.Core.List.{List, [], ◌∷◌, map}
use lib.ListN.{length, take, length-map}
use lib.Seq.{take-take}
use lib.Dec.{ltb}
use lib.Ieee.{Float}
use borrow.Author.Tests.{ltb-false}
use Rattle.basics.proofs.TestLaws.{by-test, or_left, not-false}
use Rattle.basics.specs.Tests.{either}
use Rattle.basics.specs.Options.{present, value_or}
use Rattle.basics.specs.Lists.{any, All}
use Rattle.basics.proofs.ListLaws.{take-map}
use Rattle.definitions.specs.Domain.{is_places, is_leg}
use Rattle.definitions.specs.Sheet.{SheetOf, records, own, map_sheet, any_soft}
use Rattle.definitions.specs.Lent.{Lent, whole, whole_sheet, Call}
use Rattle.definitions.specs.Refusal.{Refusal, refusal, first_fit}
use Rattle.definitions.specs.Refusals.{too_short, tables_odd, unfit, bad_sheet, out_of_range, repeats, pairs_fall, closures_differ, any_closed, refusals, refusal_of}
use Rattle.theorems.proofs.InOrder.{test_of, none-fits, zero-none, Agree, agree, ◌also◌}
use Rattle.theorems.proofs.Ranges.{InRange, LentInRange, lent-in-range, in-range}
use Rattle.models.specs.declared.customer.Customer.{Customer}
use Rattle.models.specs.Records.{customer_of, rest_of}
use Rattle.models.specs.Image.{fl_sheet}
use Rattle.whole.specs.Value.{value}
use Rattle.models.specs.declared.head.Head.{Head}
use Rattle.refuse_lists.specs.declared.kind.Kind.{Kind}
use Rattle.refuse_order.specs.Lent.{sheet_of, lent_of, Gathered}
use Rattle.refuse_numbers.specs.Falling.{pairs_fall_f}
use Rattle.distance.specs.Lookup.{is_closed_f}
use Rattle.refuse_numbers.specs.ClosedLegs.{disagree_f}
use Rattle.refuse_lists.specs.Needs.{results_short, too_short_of, runs_odd_of}
use Rattle.refuse_lists.specs.Called.{none_called, called_twice}
use Rattle.refuse_order.specs.Order.{call_of, bad_head, by_rows, Refuses, Images}
use Rattle.refuse_numbers.proofs.Rows.{all-rows}
use Rattle.refuse_numbers.proofs.Falling.{pairs-exact}
use Rattle.refuse_numbers.proofs.ClosedLegs.{any-exact, disagree-exact}
use Rattle.refuse_order.proofs.Ranging.{places-high}
use Rattle.refuse_order.proofs.Repeating.{repeats-noted}
use Rattle.refuse_order.proofs.Image.{Fit, FitCustomer, FitSheet, sheet-image}
use Rattle.refuse_order.proofs.Fitting.{FitHead}

-- ---- refusal 1 by rows

-- where the tables are places squared long, to look at them row by row is to look at both
pub by_rows_lem : (l : Lent Float) → tables_odd l.sheet ≡ false → by_rows l ≡ out_of_range value l
unfolding by_rows bad_head out_of_range bad_sheet
by_rows_lem l even = rw (all-rows l.sheet even (unfit value is_leg)) (simp or_assoc)

-- ---- the array in place of the customers lent

module _ (customers : List Customer) (count : ℕ) (array : List Customer) (G : Gathered customers count array) where
  -- the first records are the same
  pub same-records : (places : ℕ) → places ≤ 64 → places ≤ count → take places (map customer_of customers) ≡ take places (map customer_of array)
  same-records places h k =
      take-map customer_of places customers
      ∙ ap (map customer_of) (sym (take-take places 64 customers h) ∙ ap (take places) G.first ∙ take-take places count array k)
      ∙ sym (take-map customer_of places array)

-- ---- what the code is given

pub record Given : Type 0 where
  pub kind : Kind
  pub head : Head
  pub array : List Customer
  pub count : ℕ
  pub distances : List Float
  pub times : List Float
  pub tour : List ℕ
  pub calls : List ℕ
  pub ends : List ℕ
  pub breaks : List ℕ
  pub rooms : List ℕ

abbrev sheet_on : Given → List Customer → SheetOf Float
sheet_on g customers = sheet_of g.head customers g.distances g.times

abbrev lent_on : Given → List Customer → Lent Float
lent_on g customers = lent_of (sheet_on g customers) g.tour g.calls g.ends g.breaks g.rooms

abbrev call_on : Given → Call
call_on g = call_of g.kind

abbrev results_on : Given → Bool
results_on g = results_short g.kind.results g.tour g.calls g.ends g.rooms

-- ---- its tests, as the code has them

abbrev short_on : Given → Bool
short_on g = too_short_of g.kind g.head.places g.count g.tour g.calls g.ends g.breaks g.rooms

abbrev odd_on : Given → Bool
odd_on g = tables_odd (sheet_of g.head [] g.distances g.times)

abbrev range_on : Given → Bool
range_on g = by_rows (lent_of (sheet_on g g.array) g.tour g.calls [] [] [])

abbrev twice_on : Given → Bool
twice_on g = called_twice none_called g.tour

abbrev pairs_on : Given → Bool
pairs_on g = pairs_fall_f (sheet_of g.head g.array [] [])

abbrev closures_on : Given → Bool
closures_on g = disagree_f g.distances g.times

abbrev runs_on : Given → Bool
runs_on g = runs_odd_of g.kind (present (rest_of g.head.limits.rest)) (length g.calls) g.ends g.breaks

abbrev pay_on : Given → Bool
pay_on g = g.kind.improves && any_soft (take g.head.places (map customer_of g.array))

abbrev closed_on : Given → Bool
closed_on g = g.kind.improves && any is_closed_f g.distances

-- ---- each is the definitions' own where the ones before it fail

module _ (g : Given) (customers : List Customer) (G : Gathered customers g.count g.array) where
  short-same : too_short (call_on g) (lent_on g customers) ≡ short_on g
  short-same = rw (length-map customers customer_of, G.counted)

  module _ (h : short_on g ≡ false) where
    enough : g.head.places ≤ g.count
    enough =
        ltb-false g.count g.head.places
        (or_left (ltb g.count g.head.places)
        (either (results_on g ∷ (g.kind.marks && ltb (length g.breaks) (length g.ends)) ∷ []))
        h)

    same : is_places g.head.places ≡ true → take g.head.places (map customer_of customers) ≡ take g.head.places (map customer_of g.array)
    same i = same-records customers g.count g.array G g.head.places (places-high g.head.places i) enough

    -- beyond 64 places the customers are not looked at
    range_same : out_of_range value (lent_on g customers) ≡ out_of_range value (lent_on g g.array)
    unfolding out_of_range bad_sheet
    range_same = by-test (is_places g.head.places) (λ t. rw (same t)) (λ f. rw f)

    module _ (even : odd_on g ≡ false) where
      range : out_of_range value (lent_on g customers) ≡ range_on g
      unfolding by_rows out_of_range
      range = range_same ∙ sym (by_rows_lem (lent_on g g.array) even)

      module _ (fit : range_on g ≡ false) where
        R : LentInRange value (lent_on g g.array)
        R = lent-in-range value (lent_on g g.array) (sym range_same ∙ range ∙ fit)

        places-fit : is_places g.head.places ≡ true
        places-fit = not-false (is_places g.head.places) (in-range value (sheet_on g g.array) R.sheet).places

        first-same : take g.head.places (map customer_of customers) ≡ take g.head.places (map customer_of g.array)
        first-same = same places-fit

        twice : repeats g.tour ≡ twice_on g
        twice = repeats-noted g.head.places g.tour (places-high g.head.places places-fit) R.tour

        pairs : pairs_fall value (sheet_on g customers) ≡ pairs_on g
        unfolding pairs_fall pairs_fall_f
        pairs = rw first-same (sym (pairs-exact (sheet_on g g.array) R.sheet))

        in_tables : InRange value (sheet_on g g.array)
        in_tables = in-range value (sheet_on g g.array) R.sheet

        closures : closures_differ value (sheet_on g customers).legs ≡ closures_on g
        unfolding closures_differ
        closures = sym (disagree-exact g.distances g.times in_tables.distances in_tables.times)

        closed : g.kind.improves && any_closed value (sheet_on g customers).legs ≡ closed_on g
        unfolding any_closed
        closed = ap (λ (b : Bool). g.kind.improves && b) (sym (any-exact g.distances in_tables.distances))

        pay : g.kind.improves && any_soft (records (sheet_on g customers)) ≡ pay_on g
        pay = rw first-same

-- ---- the number of the first test that fits

-- the tests in the code's order
abbrev pub tests_on : Given → List Refusal
tests_on g =
    refusal 13 (short_on g)
    ∷ refusal 14 (odd_on g)
    ∷ refusal 1 (range_on g)
    ∷ refusal 21 (twice_on g)
    ∷ refusal 2 (pairs_on g)
    ∷ refusal 22 (closures_on g)
    ∷ refusal 5 (runs_on g)
    ∷ refusal 4 (pay_on g)
    ∷ refusal 23 (closed_on g)
    ∷ []

-- they are the definitions' own, each where those before it fail
tests_agree : (g : Given) (customers : List Customer) (G : Gathered customers g.count g.array) → Agree [] (tests_on g) (refusals value (call_on g) (lent_on g customers))
unfolding refusals
tests_agree g customers G =
    (refl, λ m. sym (short-same g customers G))
    also (refl, λ m. refl)
    also (refl, λ m. sym (range g customers G (m 13) (m 14)))
    also (refl, λ m. sym (twice g customers G (m 13) (m 14) (m 1)))
    also (refl, λ m. sym (pairs g customers G (m 13) (m 14) (m 1)))
    also (refl, λ m. sym (closures g customers G (m 13) (m 14) (m 1)))
    also (refl, λ m. refl)
    also (refl, λ m. sym (pay g customers G (m 13) (m 14) (m 1)))
    also (refl, λ m. sym (closed g customers G (m 13) (m 14) (m 1)))
    also tt

module _ (g : Given) (n : ℕ) (told : n ≡ value_or 0 (first_fit (tests_on g))) where
  pub refuses : Refuses (call_on g) (lent_on g) g.count g.array n
  unfolding refusal_of
  refuses customers G = told ∙ ap (value_or 0) (agree (tests_on g) (refusals value (call_on g) (lent_on g customers)) (tests_agree g customers G))

  -- where the number is 0 each test fails, by its number
  fails : n ≡ 0 → (k : ℕ) → test_of k (tests_on g) ≡ false
  fails z k = none-fits (tests_on g) (zero-none (tests_on g) refl (sym told ∙ z)) k

-- ---- an accepted sheet is the image of the whole numbers that it means

all_take : {A : Type 0} (P : A → Type 0) (n : ℕ) (l : List A) → All P l → All P (take n l)
all_take P zero l f = tt
all_take P (suc n) [] f = tt
all_take P (suc n) (x ∷ l) f = (f.0, all_take P n l f.1)

-- the floats that the code is given are those of the format
pub record Fitting (g : Given) : Type 0 where
  pub head : FitHead g.head
  pub array : All FitCustomer (map customer_of g.array)
  pub distances : All Fit g.distances
  pub times : All Fit g.times

fit-sheet : (g : Given) → Fitting g → FitSheet (sheet_on g g.array)
fit-sheet g F =
    record {
      fixed = F.head.fixed;
      max_distance = F.head.max_distance;
      max_duration = F.head.max_duration;
      rest = F.head.rest;
      customers = all_take FitCustomer g.head.places (map customer_of g.array) F.array;
      distances = F.distances;
      times = F.times;
    }

module _ (g : Given) (customers : List Customer) (G : Gathered customers g.count g.array)
    (h : short_on g ≡ false) (o : odd_on g ≡ false) (r : range_on g ≡ false) where
  same-own : own (sheet_on g customers) ≡ own (sheet_on g g.array)
  same-own = rw (first-same g customers G h o r)

  given-image : Fitting g → own (sheet_on g customers) ≡ fl_sheet (whole_sheet value (sheet_on g customers))
  unfolding whole_sheet
  given-image F = subst (λ (s : SheetOf Float). s ≡ fl_sheet (map_sheet (whole value) s)) (sym same-own) (sheet-image (sheet_on g g.array) (fit-sheet g F) (R g customers G h o r).sheet)

pub images : (g : Given) (n : ℕ) → n ≡ value_or 0 (first_fit (tests_on g)) → Fitting g → Images (sheet_on g) g.count g.array n
images g n told F z customers G = given-image g customers G (fails g n told z 13) (fails g n told z 14) (fails g n told z 1) F
