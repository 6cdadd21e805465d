-- A stretch of calls, call by call: what the first m of them ask for, and how far it is. Definitions only, over what a call asks for and
-- over the legs.
use Rattle.std.specs.Prelude.{ℕ, zero, suc, ◌-◌, Bool, cond, ◌&&◌, List, length, get_or, leb, eqb, Float, Option, Some}
use Rattle.std.specs.Float.{binary64}
use Rattle.std.specs.Float.Ieee.{add}
use Rattle.basics.specs.Options.{◌>>=◌}
use Rattle.definitions.specs.Load.{Load, no_load, plus, carried}
use Rattle.whole.specs.Whole.{fl}
use Rattle.distance.specs.declared.leg.Leg.{Leg}
use Rattle.evaluation.specs.Tables.{place_before}

-- a leg after those that are gone; the first leg stands alone
abbrev pub joined_f : Float → Float → Bool → Float
joined_f gone leg first = cond first leg (add binary64 gone leg)

-- what the first m calls of st ask for
unfoldable pub load_to : (ℕ → Load) → List ℕ → ℕ → Load
load_to demand st zero = no_load
load_to demand st (suc m) = plus (load_to demand st m) (demand (get_or st m 0))

-- st has m calls, and a vehicle holds what they ask for
unfoldable pub fits_of : (ℕ → Load) → Load → List ℕ → ℕ → Bool
fits_of demand capacity st m = leb m (length st) && carried (load_to demand st m) capacity

-- the way from the depot through the first m calls of st, added leg by leg; none where one of the legs is closed
unfoldable pub gone_of : (ℕ → ℕ → Option Leg) → List ℕ → ℕ → Option Float
gone_of leg st zero = Some (fl 0)
gone_of leg st (suc m) = do
  gone ← gone_of leg st m
  next ← leg (place_before st m) (get_or st m 0)
  Some (joined_f gone next.distance (eqb m 0))

-- and home
unfoldable pub way_of : (ℕ → ℕ → Option Leg) → List ℕ → ℕ → Option Float
way_of leg st m = do
  gone ← gone_of leg st m
  back ← leg (place_before st m) 0
  Some (add binary64 gone back.distance)

-- ---- a run, whose last call is reached

-- its last call
abbrev pub last_of : List ℕ → ℕ
last_of run = get_or run (length run - 1) 0

-- the leg to that call, `leg` from the call before it; where it is the only one, `out` from the depot
abbrev pub leg_to : List ℕ → Float → Float → Float
leg_to run out leg = cond (eqb (length run) 1) out leg

-- and the way with it
abbrev pub way_to : List ℕ → Float → Float → Float
way_to run gone leg = joined_f gone leg (eqb (length run) 1)
