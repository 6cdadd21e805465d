-- What a call is lent, and what it needs. Definitions only.
use Rattle.std.specs.Prelude.{ℕ, ◌+◌, Bool, true, false, List, [], ◌∷◌, Option}
use Rattle.basics.specs.Options.{value_or}
use Rattle.definitions.specs.Sheet.{SheetOf, Sheet, own, map_sheet}

-- what a call is lent; what it does not take is empty
pub record Lent (F : Type 0) : Type 0 where
  pub sheet : SheetOf F
  -- the tour, for the cutting and the marker
  pub tour : List ℕ
  -- the calls of a run, or of a run list
  pub calls : List ℕ
  -- the run ends of a run list
  pub ends : List ℕ
  -- the marker's break places, one for each run
  pub breaks : List ℕ
  -- the lengths of the result lists
  pub rooms : List ℕ

-- ---- what it means

-- `value` is what a stored number means: none where it is not whole, is below 0 or is negative zero
module _ {F : Type 0} (value : F → Option ℕ) where
  -- the number that is meant, where one is
  abbrev pub whole : F → ℕ
  whole x = value_or 0 (value x)

  -- the sheet that is meant
  unfoldable pub whole_sheet : SheetOf F → Sheet
  whole_sheet s = map_sheet whole (own s)

-- ---- the calls

-- the room that the violations of a run of n calls need
abbrev pub violation_room : ℕ → ℕ
violation_room n = n + 4

-- what tells the calls apart
pub record Call : Type 0 where
  -- takes run ends: its calls are a run list
  pub takes_ends : Bool
  -- the marker: takes a break place for each run
  pub marks : Bool
  -- an improver
  pub improves : Bool
  -- the length that each result list needs, for a tour, a list of calls and run ends of these lengths
  pub needs : (tour calls ends : ℕ) → List ℕ

abbrev pub call : Bool → Bool → Bool → (ℕ → ℕ → ℕ → List ℕ) → Call
call e m i n = record { takes_ends = e; marks = m; improves = i; needs = n }

-- split, split_tw: served customers, run ends, dropped positions
abbrev pub cutting : Call
cutting = call false false false (λ tour calls ends. tour ∷ tour ∷ tour ∷ [])

-- route_feasible, route_eval, effective_cost
abbrev pub evaluating : Call
evaluating = call false false false (λ tour calls ends. [])

-- build_route: visits, violations
abbrev pub visiting : Call
visiting = call false false false (λ tour calls ends. calls ∷ violation_room calls ∷ [])

-- the marker
abbrev pub marking : Call
marking = call true true false (λ tour calls ends. [])

-- two_opt_improve: calls
abbrev pub reversing : Call
reversing = call false false true (λ tour calls ends. calls ∷ [])

-- eliminate_routes: calls, run ends
abbrev pub eliminating : Call
eliminating = call true false true (λ tour calls ends. calls ∷ ends ∷ [])
