-- What is looked up for a call: its record, what it asks for, and the leg to it. Definitions only.
use Rattle.std.specs.Prelude.{ℕ, zero, suc, ◌+◌, cond, ◌≡◌, List, ltb, Float, get_or, Option, None}
use Rattle.definitions.specs.Load.{Load, no_load, load_by}
use Rattle.definitions.specs.Sheet.{CustomerOf}
use Rattle.whole.specs.Whole.{fl}
use Rattle.distance.specs.declared.leg.Leg.{Leg}
use Rattle.distance.specs.Lookup.{drive_f}
use Rattle.evaluation.specs.Records.{Tables}

-- which of 64 records a call has: its own, or the first for a call beyond them
abbrev pub record_index : ℕ → ℕ
record_index c = cond (ltb c 64) c 0

-- what stands where there is no record
abbrev pub blank : CustomerOf Float
blank = record { demand = no_load; service = fl 0; window = None; penalty = None }

unfoldable pub record_f : Tables → ℕ → CustomerOf Float
record_f t c = get_or t.customers (record_index c) blank

-- what a call asks for
unfoldable pub demand_f : List (CustomerOf Float) → ℕ → Load
demand_f customers c = (get_or customers (record_index c) blank).demand

-- what record k asks for, from a list of numbers: the seats of all 64, then their wheelchair places
abbrev pub asked_at : List ℕ → ℕ → Load
asked_at demands k = record { seats = get_or demands k 0; wheelchairs = get_or demands (64 + k) 0 }

-- what a call asks for
abbrev pub asked_f : List ℕ → ℕ → Load
asked_f demands c = asked_at demands (record_index c)

-- the list holds what each record asks for
abbrev pub Asks : List (CustomerOf Float) → List ℕ → Type 0
Asks customers demands = (c : ℕ) → asked_f demands c ≡ demand_f customers c

-- and what calls ask for in all
unfoldable pub load_f : List ℕ → List ℕ → Load
load_f demands calls = load_by (asked_f demands) calls

-- the place before call number k of a run, from 0: the call before it, or the depot
unfoldable pub place_before : List ℕ → ℕ → ℕ
place_before calls zero = 0
place_before calls (suc k) = get_or calls k 0

-- the leg from a to b, if it is open
abbrev pub leg_f : Tables → ℕ → ℕ → Option Leg
leg_f t a b = drive_f t.distances t.times t.size a b
