-- The runs along a stretch of calls on floats, as both cuttings have them: which are legal, what they cost, the table that is filled with
-- them, and the cut that is read from it. Definitions only.
use Rattle.std.specs.Prelude.{ℕ, suc, ◌-◌, ◌<◌, ◌≤◌, ◌≡◌, Bool, false, ◌&&◌, List, ◌∷◌, length, drop, take, Float, Option}
use Rattle.std.specs.Float.{binary64}
use Rattle.std.specs.Float.Ieee.{add}
use Rattle.basics.specs.Options.{value_or}
use Rattle.cut_theory.specs.Cut.{best, ends}
use Rattle.cut_theory.specs.Tab.{cells}
use Rattle.cut_theory.specs.Rows.{Legs, rule64}
use Rattle.cut_theory.specs.Priced.{Price, legs}
use Rattle.cut_theory.specs.Carried.{Carry, carried_to, RowDone, RowsDone}
use Rattle.definitions.specs.Load.{Load}
use Rattle.whole.specs.Whole.{fl}
use Rattle.distance.specs.declared.leg.Leg.{Leg}
use Rattle.cut_table.specs.Table.{Table}
use Rattle.cut_runs.specs.Stretch.{fits_of, way_of}

pub record Tariff : Type 0 where
  -- what a call asks for, and what a vehicle holds
  pub demand : ℕ → Load
  pub capacity : Load
  -- the leg between two places, if it is open
  pub leg : ℕ → ℕ → Option Leg
  -- the cost added for every run
  pub fixed : Float
  -- of the first m calls of a stretch: whether they are allowed as a run, whatever their load, and what is paid for it beside its
  -- distance; no run with a closed leg is allowed
  pub allowed : List ℕ → ℕ → Bool
  pub pays : List ℕ → ℕ → List Float

-- the stretches of the calls held
abbrev pub stretches : List ℕ → ℕ → List ℕ
stretches held i = drop i held

module _ (T : Tariff) where
  -- the first m calls of a stretch: whether they are a legal run, and how far it is; no legal run has a closed leg, so the 0 is never
  -- read
  unfoldable pub legal_of : List ℕ → ℕ → Bool
  legal_of st m = T.allowed st m && fits_of T.demand T.capacity st m

  unfoldable pub far_of : List ℕ → ℕ → Float
  far_of st m = value_or (fl 0) (way_of T.leg st m)

  -- a row that goes over r calls of a stretch: all of them, or the next ends it for every stretch that begins alike, since no run with
  -- it is legal
  pub record Ended (st : List ℕ) (r : ℕ) : Type 0 where
    pub inside : r ≤ length st
    pub barred : r < length st → (st' : List ℕ) → take (suc r) st' ≡ take (suc r) st → (m : ℕ) → r < m → legal_of st' m ≡ false

  -- ---- the runs from call i up to, and not with, call j, where `from i` is the stretch of all calls from i on

  abbrev pub price_of : (ℕ → List ℕ) → Price
  price_of from =
      record {
        legal = λ i j. legal_of (from i) (j - i);
        terms = λ i j. T.fixed ∷ far_of (from i) (j - i) ∷ T.pays (from i) (j - i);
      }

  abbrev pub runs_of : (ℕ → List ℕ) → Legs
  runs_of from = legs (price_of from)

  -- the distance of the runs, carried beside their cost
  abbrev pub fars_of : (ℕ → List ℕ) → Carry Float
  fars_of from = record { start = fl 0; step = λ d i j. add binary64 d (far_of (from i) (j - i)) }

  -- the row i, from what the table was to what it is, along the stretch that starts at i
  abbrev pub RowOf : List ℕ → ℕ → Table → Table → Type 0
  RowOf st i old new = RowDone (runs_of (λ _. st)) (fars_of (λ _. st)) i old.cost old.far old.pred new.cost new.far new.pred

  -- the table of the calls held after the rows below i
  abbrev pub TableOf : List ℕ → ℕ → Table → Type 0
  TableOf held i t = RowsDone (runs_of (stretches held)) (fars_of (stretches held)) i t.cost t.far t.pred

  -- row i of the calls held
  abbrev pub HeldRow : List ℕ → ℕ → Table → Table → Type 0
  HeldRow held i old new =
      RowDone (runs_of (stretches held)) (fars_of (stretches held)) i old.cost old.far old.pred new.cost new.far new.pred

  -- ---- the calls held, cut at least cost

  abbrev pub ends_f : List ℕ → List ℕ
  ends_f held = ends (rule64 (runs_of (stretches held))) (length held)

  abbrev pub cost_f : List ℕ → Float
  cost_f held = best (rule64 (runs_of (stretches held))) (length held)

  abbrev pub distance_f : List ℕ → Float
  distance_f held = carried_to (rule64 (runs_of (stretches held))) (fars_of (stretches held)) (length held)

  -- what the cut gives: the ends stand in `es` from `at` on
  pub record CutDone (held : List ℕ) (cost distance : Float) (at : ℕ) (es : List ℕ) : Type 0 where
    pub cost-is : cost ≡ cost_f held
    pub distance_is : distance ≡ distance_f held
    pub ends-are : drop at es ≡ ends_f held
    pub inside : at ≤ cells
    pub long : length es ≡ cells
