-- A sheet within the limits, each number held in a float, means itself. Assumes nothing.
use Prim.Native.Nat.{ℕ, ◌≤◌}
use native.Mathlib.Omega.{arith}
use mathlib.Core.Path.{◌≡◌, refl, sym, ap, subst, ◌∙◌}
use mathlib.Core.Bool.{Bool, false, true, ◌||◌}
use mathlib.Core.List.{List, [], ◌∷◌, map}
use Rattle.std.specs.Prelude.{Option, None, Some, option_map}
use lib.Seq.{take_all}
use lib.Dec.{leb}
use borrow.Author.Tests.{leb-true, eqb-true}
use Rattle.basics.proofs.TestLaws.{by-test, not-false, not-of-true, or_left, or_right}
use Rattle.basics.specs.Lists.{any}
use Rattle.definitions.specs.Domain.{no_road, is_number, is_closed, is_leg}
use Rattle.definitions.specs.Sheet.{Window, Break, Customer, SheetOf, Sheet, records, map_window, map_break, map_customer, map_sheet}
use Rattle.definitions.specs.Lent.{Call}
use Rattle.definitions.specs.Refusals.{unfit, bad_optional, bad_break, bad_window, bad_customer, Within}
use Rattle.definitions.specs.Answers.{answer}
use Rattle.theorems.proofs.Ranges.{break-in-range, window-in-range, customer-in-range, InRange, in-range}
use Rattle.models.specs.Image.{fl_window, fl_break, fl_customer, fl_sheet}
use Rattle.whole.specs.Whole.{fl, limit}
use Rattle.whole.specs.Value.{value}
use Rattle.whole.proofs.ValueLaws.{value-fl}
use Rattle.refuse_order.specs.Lent.{lent_of}
use Rattle.bytes_shared.specs.Lent.{lent_with}
use Rattle.bytes_shared.proofs.Meaning.{itself, answer-meant}

-- ---- each number

module _ (m : ℕ) (l : m ≤ limit) where
  exact : (n : ℕ) → unfit Some (λ (k : ℕ). leb k m) n ≡ false → value (fl n) ≡ Some n
  exact n h = let b = leb-true n m (not-false (leb n m) h) in value-fl n (omega arith)

  exact-limit : (o : Option ℕ) → bad_optional Some (λ (k : ℕ). leb k m) o ≡ false → option_map value (option_map fl o) ≡ option_map Some o
  exact-limit None h = refl
  exact-limit (Some n) h = ap Some (exact n h)

number : (n : ℕ) → unfit Some is_number n ≡ false → value (fl n) ≡ Some n
number = exact 10000000 (omega arith)

exact-break : (o : Option Break) → bad_break Some o ≡ false → option_map (map_break value) (option_map fl_break o) ≡ option_map (map_break Some) o
exact-break None h = refl
exact-break (Some b) h =
    let R = break-in-range Some b h in
    λ i. Some (record { earliest = number b.earliest R.earliest i; latest = number b.latest R.latest i; duration = number b.duration R.duration i })

exact-window : (o : Option Window) → bad_window Some o ≡ false → option_map (map_window value) (option_map fl_window o) ≡ option_map (map_window Some) o
exact-window None h = refl
exact-window (Some w) h = let R = window-in-range Some w h in λ i. Some (record { ready = number w.ready R.ready i; due = number w.due R.due i })

exact-customer : (c : Customer) → bad_customer Some c ≡ false → map_customer value (fl_customer c) ≡ map_customer Some c
exact-customer c h =
    let R = customer-in-range Some c h in
    λ i.
    record {
      demand = c.demand;
      service = number c.service R.service i;
      window = exact-window c.window R.window i;
      penalty = exact-limit 1000 (omega arith) c.penalty R.penalty i;
    }

module _ {A B C : Type 0} (bad : A → Bool) (to : A → B) (back : B → C) (held : A → C) (each : (x : A) → bad x ≡ false → back (to x) ≡ held x) where
  exact-list : (l : List A) → any bad l ≡ false → map back (map to l) ≡ map held l
  exact-list [] h = refl
  exact-list (x ∷ l) h = λ i. each x (or_left (bad x) (any bad l) h) i ∷ exact-list l (or_right (bad x) (any bad l) h) i

-- a leg's number, or that of a closed one
leg : (n : ℕ) → unfit Some is_leg n ≡ false → value (fl n) ≡ Some n
leg n h =
    by-test (is_number n) (λ t. number n (not-of-true (is_number n) t))
    (λ f. let closed = eqb-true n no_road (subst (λ (b : Bool). b || is_closed n ≡ true) f (not-false (is_leg n) h)) in value-fl n (omega (arith, closed)))

legs : (l : List ℕ) → any (unfit Some is_leg) l ≡ false → map value (map fl l) ≡ map Some l
legs = exact-list (unfit Some is_leg) fl value Some leg

-- ---- the sheet

module _ (s : Sheet) (W : Within s) where
  R : InRange Some s
  R = in-range Some s W.ranged

  all-records : records s ≡ s.customers
  all-records = take_all s.head.places s.customers (omega (arith, W.counted))

  means-itself : map_sheet value (fl_sheet s) ≡ map_sheet Some s
  means-itself =
      λ i.
      record {
        head =
            record {
              places = s.head.places;
              capacity = s.head.capacity;
              fixed = number s.head.fixed R.fixed i;
              max_distance = exact-limit 10000000 (omega arith) s.head.max_distance R.max_distance i;
              max_duration = exact-limit 10000000 (omega arith) s.head.max_duration R.max_duration i;
              rest = exact-break s.head.rest R.rest i;
            };
        customers =
            exact-list (bad_customer Some) fl_customer (map_customer value) (map_customer Some) exact-customer s.customers
            (subst (λ (l : List Customer). any (bad_customer Some) l ≡ false) all-records R.customers) i;
        legs = record { distances = legs s.legs.distances R.distances i; times = legs s.legs.times R.times i };
      }

  -- a call answers on it what it answers on the sheet of whole numbers
  pub whole-answer : {A : Type 0} (k : Call) (result : Sheet → A) (tour calls ends breaks rooms : List ℕ)
      → answer value k result (lent_of (fl_sheet s) tour calls ends breaks rooms) ≡ answer Some k result (lent_with s tour calls ends breaks rooms)
  whole-answer k result tour calls ends breaks rooms =
      sym (answer-meant value k result (lent_of (fl_sheet s) tour calls ends breaks rooms))
      ∙ ap (λ (x : SheetOf (Option ℕ)). answer itself k result (record { sheet = x; tour = tour; calls = calls; ends = ends; breaks = breaks; rooms = rooms })) means-itself
      ∙ answer-meant Some k result (lent_with s tour calls ends breaks rooms)
