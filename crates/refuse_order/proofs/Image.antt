-- A sheet in range whose floats are those of the format holds the whole numbers that it means: each float is the image of its number. Assumes nothing.
use Prim.Native.Nat.{ℕ, ◌≤◌}
use native.Mathlib.Omega.{arith}
use mathlib.Core.Path.{◌≡◌, refl, subst}
use mathlib.Core.Bool.{Bool, true, false, ◌||◌}
use mathlib.Core.List.{List, [], ◌∷◌, map}
use Rattle.std.specs.Prelude.{Option, None, Some, option_map}
use lib.Dec.{T, leb}
use lib.Ieee as Ieee
use lib.Ieee.{Float, binary64}
use borrow.Author.Tests.{leb-true, eqb-true}
use Rattle.basics.proofs.TestLaws.{by-test, or_left, or_right}
use Rattle.basics.specs.Options.{Holds}
use Rattle.basics.specs.Lists.{any, All}
use Rattle.definitions.specs.Domain.{no_road, is_number, is_closed, is_leg}
use Rattle.definitions.specs.Sheet.{WindowOf, BreakOf, CustomerOf, SheetOf, records, own, map_window, map_break, map_customer}
use Rattle.definitions.specs.Lent.{Lent, whole, whole_sheet, Call}
use Rattle.definitions.specs.Refusals.{unfit, bad_optional, bad_break, bad_window, bad_customer, bad_sheet, refusals, refusal_of}
use Rattle.theorems.proofs.InOrder.{none-fits}
use Rattle.theorems.proofs.Ranges.{break-in-range, window-in-range, customer-in-range, in-range, lent-in-range}
use Rattle.theorems.proofs.Accepted.{held}
use Rattle.models.specs.Image.{fl_window, fl_break, fl_customer, fl_sheet}
use Rattle.whole.specs.Whole.{fl, limit}
use Rattle.whole.specs.Value.{value}
use Rattle.whole.proofs.ValueLaws.{fl-value}

-- ---- floats of the format

abbrev pub Fit : Float → Type 0
Fit x = T (Ieee.fits binary64 x)

pub record FitWindow (w : WindowOf Float) : Type 0 where
  pub ready : Fit w.ready
  pub due : Fit w.due

pub record FitBreak (b : BreakOf Float) : Type 0 where
  pub earliest : Fit b.earliest
  pub latest : Fit b.latest
  pub duration : Fit b.duration

pub record FitCustomer (c : CustomerOf Float) : Type 0 where
  pub service : Fit c.service
  pub window : Holds FitWindow c.window
  pub penalty : Holds Fit c.penalty

-- each float that a sheet has
pub record FitSheet (s : SheetOf Float) : Type 0 where
  pub fixed : Fit s.head.fixed
  pub max_distance : Holds Fit s.head.max_distance
  pub max_duration : Holds Fit s.head.max_duration
  pub rest : Holds FitBreak s.head.rest
  pub customers : All FitCustomer (records s)
  pub distances : All Fit s.legs.distances
  pub times : All Fit s.legs.times

-- ---- each is the image of what it means

module _ (m : ℕ) (l : m ≤ limit) where
  pub exact : (x : Float) → Fit x → unfit value (λ (n : ℕ). leb n m) x ≡ false → x ≡ fl (whole value x)
  exact x f h =
      let e = held value (λ (n : ℕ). leb n m) x h in
      let b = leb-true (whole value x) m e.1 in
      fl-value x (whole value x) f e.0 (omega arith)

  exact-limit : (o : Option Float) → Holds Fit o → bad_optional value (λ (n : ℕ). leb n m) o ≡ false → o ≡ option_map fl (option_map (whole value) o)
  exact-limit None f h = refl
  exact-limit (Some x) f h = λ i. Some (exact x f h i)

number : (x : Float) → Fit x → unfit value is_number x ≡ false → x ≡ fl (whole value x)
number = exact 10000000 (omega arith)

exact-break : (o : Option (BreakOf Float)) → Holds FitBreak o → bad_break value o ≡ false → o ≡ option_map fl_break (option_map (map_break (whole value)) o)
exact-break None f h = refl
exact-break (Some b) f h =
    let R = break-in-range value b h in
    λ i.
    Some
    (record {
      earliest = number b.earliest f.earliest R.earliest i;
      latest = number b.latest f.latest R.latest i;
      duration = number b.duration f.duration R.duration i;
    })

exact-window : (o : Option (WindowOf Float)) → Holds FitWindow o → bad_window value o ≡ false → o ≡ option_map fl_window (option_map (map_window (whole value)) o)
exact-window None f h = refl
exact-window (Some w) f h =
    let R = window-in-range value w h in
    λ i. Some (record { ready = number w.ready f.ready R.ready i; due = number w.due f.due R.due i })

exact-customer : (c : CustomerOf Float) → FitCustomer c → bad_customer value c ≡ false → c ≡ fl_customer (map_customer (whole value) c)
exact-customer c f h =
    let R = customer-in-range value c h in
    λ i.
    record {
      demand = c.demand;
      service = number c.service f.service R.service i;
      window = exact-window c.window f.window R.window i;
      penalty = exact-limit 1000 (omega arith) c.penalty f.penalty R.penalty i;
    }

module _ {A B : Type 0} (P : A → Type 0) (bad : A → Bool) (to : A → B) (back : B → A) (each : (x : A) → P x → bad x ≡ false → x ≡ back (to x)) where
  exact-list : (l : List A) → All P l → any bad l ≡ false → l ≡ map back (map to l)
  exact-list [] f h = refl
  exact-list (x ∷ l) f h = λ i. each x f.0 (or_left (bad x) (any bad l) h) i ∷ exact-list l f.1 (or_right (bad x) (any bad l) h) i

-- a number of a leg table, a closed leg's too
leg : (x : Float) → Fit x → unfit value is_leg x ≡ false → x ≡ fl (whole value x)
leg x f h =
    let e = held value is_leg x h in
    by-test (is_number (whole value x)) (λ t. let m = leb-true (whole value x) 10000000 t in fl-value x (whole value x) f e.0 (omega arith))
    (λ n. let m = eqb-true (whole value x) no_road (subst (λ (b : Bool). b || is_closed (whole value x) ≡ true) n e.1) in fl-value x (whole value x) f e.0 (omega arith))

legs : (l : List Float) → All Fit l → any (unfit value is_leg) l ≡ false → l ≡ map fl (map (whole value) l)
legs = exact-list Fit (unfit value is_leg) (whole value) fl leg

-- a sheet in range is the image of the sheet that it means, of which it is lent the first records
pub sheet-image : (s : SheetOf Float) → FitSheet s → bad_sheet value s ≡ false → own s ≡ fl_sheet (whole_sheet value s)
unfolding whole_sheet
sheet-image s f h =
    let R = in-range value s h in
    λ i.
    record {
      head =
          record {
            places = s.head.places;
            capacity = s.head.capacity;
            fixed = number s.head.fixed f.fixed R.fixed i;
            max_distance = exact-limit 10000000 (omega arith) s.head.max_distance f.max_distance R.max_distance i;
            max_duration = exact-limit 10000000 (omega arith) s.head.max_duration f.max_duration R.max_duration i;
            rest = exact-break s.head.rest f.rest R.rest i;
          };
      customers =
          exact-list FitCustomer (bad_customer value) (map_customer (whole value)) fl_customer exact-customer
          (records s) f.customers R.customers i;
      legs = record { distances = legs s.legs.distances f.distances R.distances i; times = legs s.legs.times f.times R.times i };
    }

-- and so is what an accepted call is lent
pub accepted-image : (k : Call) (l : Lent Float) → FitSheet l.sheet → refusal_of value k l ≡ None → own l.sheet ≡ fl_sheet (whole_sheet value l.sheet)
unfolding refusal_of refusals
accepted-image k l f h = sheet-image l.sheet f (lent-in-range value l (none-fits (refusals value k l) h 1)).sheet
