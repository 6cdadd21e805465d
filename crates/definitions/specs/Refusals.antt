-- The refusals of every call but the reader's, over the data as lent: one list, in the scope document's order. Definitions only.
use Rattle.std.specs.Prelude.{ℕ, ◌-◌, ◌*◌, ◌≡◌, Bool, false, cond, ◌&&◌, ◌||◌, not, List, [], ◌∷◌, length, ltb, eqb, Option, None, Some}
use Rattle.basics.specs.Tests.{either}
use Rattle.basics.specs.Options.{holds, present}
use Rattle.basics.specs.Lists.{is_empty, any}
use Rattle.definitions.specs.Domain.{most_calls, is_places, is_demand, is_capacity, is_penalty, is_number, is_closed, closed_apart, is_leg, is_call}
use Rattle.definitions.specs.Load.{each_of}
use Rattle.definitions.specs.Sheet.{WindowOf, BreakOf, CustomerOf, LegsOf, SheetOf, Sheet, records, any_soft}
use Rattle.definitions.specs.Refusal.{Refusal, refusal, first_fit}
use Rattle.definitions.specs.Room.{short}
use Rattle.definitions.specs.Lent.{Lent, whole, Call}

-- ---- 13: a lent buffer too short

abbrev pub too_short : {F : Type 0} → Call → Lent F → Bool
too_short k l =
    either
    (ltb (length l.sheet.customers) l.sheet.head.places
    ∷ short (k.needs (length l.tour) (length l.calls) (length l.ends)) l.rooms
    ∷ (k.marks && ltb (length l.breaks) (length l.ends))
    ∷ [])

-- ---- 14: a leg table not places squared long; an empty time table is none

abbrev pub tables_odd : {F : Type 0} → SheetOf F → Bool
tables_odd s =
    let full : ℕ = s.head.places * s.head.places in
    not (eqb (length s.legs.distances) full) || not (is_empty s.legs.times || eqb (length s.legs.times) full)

-- more than 128 calls, or a call out of range
abbrev pub bad_calls : ℕ → List ℕ → Bool
bad_calls places calls = ltb most_calls (length calls) || any (λ (c : ℕ). not (is_call places c)) calls

-- the test of a tour, and that of a run list
abbrev pub bad_tour : ℕ → List ℕ → Bool
bad_tour places tour = bad_calls places tour

abbrev pub bad_run_list : ℕ → List ℕ → Bool
bad_run_list places calls = bad_calls places calls

-- ---- 21: a repeated customer

-- the same customer twice in a tour; a run list is not asked
abbrev pub repeats : List ℕ → Bool
repeats [] = false
repeats (c ∷ tour) = any (λ (d : ℕ). eqb c d) tour || repeats tour

module _ {F : Type 0} (value : F → Option ℕ) where
  -- ---- 1: a number out of range, not whole or negative zero

  abbrev pub unfit : (ℕ → Bool) → F → Bool
  unfit p x = not (holds (value x) p)

  -- a limit or a penalty that is given
  abbrev pub bad_optional : (ℕ → Bool) → Option F → Bool
  bad_optional p None = false
  bad_optional p (Some x) = unfit p x

  abbrev pub bad_break : Option (BreakOf F) → Bool
  bad_break None = false
  bad_break (Some b) = either (unfit is_number b.earliest ∷ unfit is_number b.latest ∷ unfit is_number b.duration ∷ [])

  abbrev pub bad_window : Option (WindowOf F) → Bool
  bad_window None = false
  bad_window (Some w) = unfit is_number w.ready || unfit is_number w.due

  abbrev pub bad_customer : CustomerOf F → Bool
  bad_customer c =
      either
      (not (each_of is_demand c.demand)
      ∷ unfit is_number c.service
      ∷ bad_window c.window
      ∷ bad_optional is_penalty c.penalty
      ∷ [])

  -- a depot record with demand, service, window or penalty
  abbrev pub bad_depot : List (CustomerOf F) → Bool
  bad_depot [] = false
  bad_depot (c ∷ cs) =
      either
      (not (each_of (λ (n : ℕ). eqb n 0) c.demand)
      ∷ unfit (λ (n : ℕ). eqb n 0) c.service
      ∷ present c.window
      ∷ present c.penalty
      ∷ [])

  unfoldable pub bad_sheet : SheetOf F → Bool
  bad_sheet s =
      either
      (not (is_places s.head.places)
      ∷ not (each_of is_capacity s.head.capacity)
      ∷ unfit is_number s.head.fixed
      ∷ bad_optional is_number s.head.max_distance
      ∷ bad_optional is_number s.head.max_duration
      ∷ bad_break s.head.rest
      ∷ bad_depot (records s)
      ∷ any bad_customer (records s)
      ∷ any (unfit is_leg) s.legs.distances
      ∷ any (unfit is_leg) s.legs.times
      ∷ [])

  unfoldable pub out_of_range : Lent F → Bool
  out_of_range l =
      either (bad_sheet l.sheet ∷ bad_tour l.sheet.head.places l.tour ∷ bad_run_list l.sheet.head.places l.calls ∷ [])

  -- ---- 2: ready above due, or earliest above latest

  abbrev pub above : F → F → Bool
  above x y = ltb (whole value y) (whole value x)

  abbrev pub window_falls : Option (WindowOf F) → Bool
  window_falls None = false
  window_falls (Some w) = above w.ready w.due

  abbrev pub break_falls : Option (BreakOf F) → Bool
  break_falls None = false
  break_falls (Some b) = above b.earliest b.latest

  unfoldable pub pairs_fall : SheetOf F → Bool
  pairs_fall s = break_falls s.head.rest || any (λ (c : CustomerOf F). window_falls c.window) (records s)

  -- ---- 22 and 23: closed legs

  -- distance and time disagree on closure, leg by leg; an empty time table agrees
  abbrev pub disagree : List F → List F → Bool
  disagree [] ts = false
  disagree (d ∷ ds) [] = false
  disagree (d ∷ ds) (t ∷ ts) = closed_apart (whole value d) (whole value t) || disagree ds ts

  unfoldable pub closures_differ : LegsOf F → Bool
  closures_differ legs = disagree legs.distances legs.times

  -- some leg is closed, in a run or not
  unfoldable pub any_closed : LegsOf F → Bool
  any_closed legs = any (λ (x : F). is_closed (whole value x)) legs.distances

-- ---- 5: run ends and break places

-- from the end p of the run before: an end below the one before it, or the last is not the number of calls
abbrev pub ends_fall : ℕ → List ℕ → ℕ → Bool
ends_fall p [] n = not (eqb p n)
ends_fall p (e ∷ es) n = ltb e p || ends_fall e es n

abbrev pub empty_run : ℕ → List ℕ → Bool
empty_run p [] = false
empty_run p (e ∷ es) = eqb e p || empty_run e es

-- a break place beyond its run, or on a sheet without a break
abbrev pub break_beyond : Bool → ℕ → List ℕ → List ℕ → Bool
break_beyond rest p [] bs = false
break_beyond rest p (e ∷ es) [] = false
break_beyond rest p (e ∷ es) (b ∷ bs) = ltb (cond rest (e - p) 0) b || break_beyond rest e es bs

abbrev pub runs_odd : {F : Type 0} → Call → Lent F → Bool
runs_odd k l =
    either
    ((k.takes_ends && ltb most_calls (length l.ends))
    ∷ (k.takes_ends && ends_fall 0 l.ends (length l.calls))
    ∷ (k.marks && empty_run 0 l.ends)
    ∷ (k.marks && break_beyond (present l.sheet.head.rest) 0 l.ends l.breaks)
    ∷ [])

-- ---- the order

unfoldable pub refusals : {F : Type 0} → (F → Option ℕ) → Call → Lent F → List Refusal
refusals value k l =
    refusal 13 (too_short k l)
    ∷ refusal 14 (tables_odd l.sheet)
    ∷ refusal 1 (out_of_range value l)
    ∷ refusal 21 (repeats l.tour)
    ∷ refusal 2 (pairs_fall value l.sheet)
    ∷ refusal 22 (closures_differ value l.sheet.legs)
    ∷ refusal 5 (runs_odd k l)
    ∷ refusal 4 (k.improves && any_soft (records l.sheet))
    ∷ refusal 23 (k.improves && any_closed value l.sheet.legs)
    ∷ []

-- the number that the call gives; none: the call is accepted
unfoldable pub refusal_of : {F : Type 0} → (F → Option ℕ) → Call → Lent F → Option ℕ
refusal_of value k l = first_fit (refusals value k l)

-- ---- a sheet in whole numbers

-- within the limits of the Domain
pub record Within (s : Sheet) : Type 0 where
  pub counted : length s.customers ≡ s.head.places
  pub tables : tables_odd s ≡ false
  pub ranged : bad_sheet Some s ≡ false
  pub paired : pairs_fall Some s ≡ false
  pub closed-alike : closures_differ Some s.legs ≡ false

-- calls of such a sheet, as a tour or a run list has them
abbrev pub WithinCalls : Sheet → List ℕ → Type 0
WithinCalls s calls = bad_calls s.head.places calls ≡ false
