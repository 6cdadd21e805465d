-- What demand 3 speaks of: the drop rule, the positions served or dropped, the rivals of a cutting, and ties. Definitions only.
use Rattle.std.specs.Prelude.{ℕ, suc, ◌+◌, ◌≤◌, ◌<◌, ◌≡◌, true, List, [], ◌∷◌, ◌++◌, map, length, take}
use Rattle.definitions.specs.Sheet.{Sheet}
use Rattle.definitions.specs.Run.{Run}
use Rattle.definitions.specs.Clock.{place_or}
use Rattle.definitions.specs.Placement.{Placement, by_clock, by_pay, totals_by}
use Rattle.definitions.specs.Cutting.{calls_in, joined, legal_cutting, cutting_cost}
use Rattle.definitions.specs.Drop.{calls_at, Held, drop_at}

-- ---- the drop rule

-- the calls have a legal cutting, whatever its break places
abbrev pub HasCutting : Sheet → List ℕ → Type 0
HasCutting s calls = (runs : List Run) × (joined runs ≡ calls) × (legal_cutting s runs ≡ true)

-- the first i of the calls held
abbrev pub beginning : List ℕ → ℕ → Held → List ℕ
beginning tour i h = take i (calls_at tour h.held)

module _ (Has : List ℕ → Type 0) (tour : List ℕ) where
  -- `Settles h g`: from h the drops lead to g. A call is dropped exactly when it is the end of the shortest beginning of the calls then
  -- held that has no cutting; when no such beginning is left, that is the end.
  pub data Settles : Held → Held → Type 0 where
    stop : {h : Held} → ((i : ℕ) → i ≤ length h.held → Has (beginning tour i h)) → Settles h h
    goes : {h g : Held} (k : ℕ) → k < length h.held → (Has (beginning tour (suc k) h) → ⊥) → ((i : ℕ) → i ≤ k → Has (beginning tour i h))
        → Settles (drop_at k h) g → Settles h g

-- ---- every position is served or dropped

-- the first list, in order, with each of its elements either in the second or in the third
pub data Parts : List ℕ → List ℕ → List ℕ → Type 0 where
  ended : Parts [] [] []
  kept : {l h d : List ℕ} (x : ℕ) → Parts l h d → Parts (x ∷ l) (x ∷ h) d
  gone : {l h d : List ℕ} (x : ℕ) → Parts l h d → Parts (x ∷ l) h (x ∷ d)

-- ---- rivals

-- a run with its break where the placement puts it
abbrev pub placed_run : Placement → Sheet → List ℕ → Run
placed_run p s calls = record { calls = calls; place = place_or (totals_by p s calls) }

-- legal, whatever its break places
abbrev pub AnyRival : Sheet → List Run → Type 0
AnyRival s runs = legal_cutting s runs ≡ true

-- legal, with its breaks where the clock puts them
abbrev pub ClockRival : Sheet → List Run → Type 0
ClockRival s runs = AnyRival s runs × (map (placed_run by_clock s) (calls_in runs) ≡ runs)

-- whom a cutting is held against, with lateness pay or without
abbrev pub Rival : Placement → Sheet → List Run → Type 0
Rival by_clock s runs = ClockRival s runs
Rival by_pay s runs = AnyRival s runs

-- ---- ties

-- Ties go to the earlier cut point, from the last run back: no rival of the same calls and the same
-- cost has a last run that starts earlier.
pub data Ties (s : Sheet) (Rival : List Run → Type 0) : List Run → Type 0 where
  no_run : Ties s Rival []
  last-run : {runs : List Run} (r : Run) → Ties s Rival runs
      → ((rival : List Run) (t : Run) → joined (rival ++ (t ∷ [])) ≡ joined (runs ++ (r ∷ [])) → Rival (rival ++ (t ∷ []))
      → cutting_cost s (rival ++ (t ∷ [])) ≡ cutting_cost s (runs ++ (r ∷ [])) → length (joined runs) ≤ length (joined rival))
      → Ties s Rival (runs ++ (r ∷ []))
