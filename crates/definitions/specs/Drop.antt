-- Which calls are served and which dropped; the complete results of `split_tw` and `split`. Definitions only.
use Rattle.std.specs.Prelude.{ℕ, zero, suc, ◌+◌, ◌-◌, not, ◌&&◌, List, [], ◌∷◌, ◌++◌, map, length, get_or, Option, None, Some}
use Rattle.basics.specs.Options.{◌>>=◌, value_or, given}
use Rattle.basics.specs.Lists.{is_empty, sum, without, count}
use Rattle.definitions.specs.Sheet.{Sheet}
use Rattle.definitions.specs.Run.{distance_from, fits, price, length_of}
use Rattle.definitions.specs.Clock.{Arc, arc}
use Rattle.definitions.specs.Placement.{Placement, by_clock, by_pay, least_arc}
use Rattle.definitions.specs.Cutting.{Best, nothing, run_ends, cheapest, stuck}

-- a call is a tour position, from 1: its customer
abbrev pub call_at : List ℕ → ℕ → ℕ
call_at tour p = get_or tour (p - 1) 0

abbrev pub calls_at : List ℕ → List ℕ → List ℕ
calls_at tour held = map (call_at tour) held

-- the calls held, and those dropped, in drop order
pub record Held : Type 0 where
  pub held : List ℕ
  pub dropped : List ℕ

-- the call number k of those held, from 0, is dropped
abbrev pub drop_at : ℕ → Held → Held
drop_at k h = record { held = without k h.held; dropped = h.dropped ++ (get_or h.held k 0 ∷ []) }

-- While some beginning of the held calls has no legal cutting, the last call of the shortest such beginning is
-- dropped, and all starts over. There are enough turns.
unfoldable pub drop_from : (List ℕ → Option Arc) → List ℕ → ℕ → Held → Held
drop_from arc tour zero h = h
drop_from arc tour (suc turns) h =
    elim (stuck arc (calls_at tour h.held)) [
      | None ↦ h
      | Some k ↦ drop_from arc tour turns (drop_at k h)
    ]

-- held at first are all positions of the tour
abbrev pub all_held : List ℕ → Held
all_held tour = record { held = count 1 (length tour); dropped = [] }

-- those held at the end are served
unfoldable pub drops : (List ℕ → Option Arc) → List ℕ → Held
drops arc tour = drop_from arc tour (length tour) (all_held tour)

-- what a cutting of a tour answers
pub record Result : Type 0 where
  -- served customers
  pub served : List ℕ
  -- a run end is the number of served calls up to that end
  pub ends : List ℕ
  -- dropped positions, in drop order
  pub dropped : List ℕ
  pub cost : ℕ
  pub distance : ℕ
  -- each run's break place
  pub places : List ℕ

abbrev pub result : Sheet → List ℕ → Held → Best → Result
result s tour h b =
    record {
      served = calls_at tour h.held;
      ends = run_ends b.runs;
      dropped = h.dropped;
      cost = b.cost;
      distance = sum (λ r. length_of s r.calls) b.runs;
      places = map (λ r. r.place) b.runs;
    }

-- the cutting of the held calls
abbrev pub cut_of : (List ℕ → Option Arc) → List ℕ → Held → Best
cut_of arc tour h = value_or nothing (cheapest arc (calls_at tour h.held))

-- the drops and the cutting by a way to price a run
abbrev pub plan_by : (List ℕ → Option Arc) → Sheet → List ℕ → Result
plan_by arc s tour = let h = drops arc tour in result s tour h (cut_of arc tour h)

-- by the clock
unfoldable pub split_tw : Sheet → List ℕ → Result
split_tw s tour = plan_by (arc s) s tour

-- by the least lateness pay
unfoldable pub split_least : Sheet → List ℕ → Result
split_least s tour = plan_by (least_arc s) s tour

-- for either placement of the breaks
abbrev pub split_by : Placement → Sheet → List ℕ → Result
split_by by_clock s tour = split_tw s tour
split_by by_pay s tour = split_least s tour

-- by loads and closed legs alone: windows, limits and break are ignored
unfoldable pub plain_arc : Sheet → List ℕ → Option Arc
plain_arc s calls = do
  distance ← distance_from s 0 calls
  given (not (is_empty calls) && fits s calls) (record { place = 0; cost = price s distance 0 })

unfoldable pub split : Sheet → List ℕ → Result
split s tour = plan_by (plain_arc s) s tour
