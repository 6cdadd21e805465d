-- Where a customer may go, what it adds there and the best of these places, on floats, as the code has it. Definitions only.
use Rattle.std.specs.Prelude.{ℕ, suc, ◌≤◌, ◌<◌, ◌≡◌, Bool, true, false, cond, ◌&&◌, List, [], ◌∷◌, ◌++◌, map, length, get_or, Float, Option, None, Some}
use Rattle.std.specs.Float.Ieee as Ieee
use Rattle.std.specs.Float.{binary64, inf}
use Rattle.basics.specs.Options.{Holds, given}
use Rattle.basics.specs.Lists.{count}
use Rattle.definitions.specs.Load.{Load}
use Rattle.models.specs.declared.customer.Customer.{Customer}
use Rattle.models.specs.declared.load.Space.{Space}
use Rattle.models.specs.Load.{space_of}
use Rattle.models.specs.Limits.{within_f}
use Rattle.evaluation.specs.Records.{Tables, lent}
use Rattle.evaluation.specs.Tables as Tables
use Rattle.evaluation.specs.Tables.{place_before}
use Rattle.cut_stops.specs.Stops.{Numbers, listed}
use Rattle.improve_base.specs.declared.search.Search.{Search}
use Rattle.improve_base.specs.Leg.{distance_f}
use Rattle.improve_base.specs.Route.{far_f}
use Rattle.improve_base.specs.Search.{SearchF, search_of}
use Rattle.latest.specs.Times.{timely}
use Rattle.latest.specs.Floats.{floats, travel_f, hours_f, day_f}
use Rattle.improve_runs.specs.RunLists.{run_at}
use Rattle.place_choice.specs.declared.insertion.Spot.{Spot}
use Rattle.place_choice.specs.declared.tested.Given.{Given}
use Rattle.place_choice.specs.declared.tested.Mover.{Mover}
use Rattle.place_choice.specs.Loads.{room_f}

-- ---- what is lent

pub record GivenF : Type 0 where
  pub tables : Tables
  pub capacity : Load
  -- the fixed run cost
  pub fixed : Float
  -- what an improver is told of the sheet
  pub search : SearchF

abbrev pub given_of : Tables → Space → Float → Search → GivenF
given_of tables capacity fixed search = record { tables = tables; capacity = space_of capacity; fixed = fixed; search = search_of search }

abbrev pub lent_given : List Customer → List Float → List Float → ℕ → Space → Float → Search → GivenF
lent_given customers distances times size capacity fixed search = given_of (lent customers distances times size) capacity fixed search

-- with the records in lists of numbers
abbrev pub given_in : Given → Numbers → List Float → List Float → GivenF
given_in g records distances times = given_of (listed records distances times g.size) g.capacity g.fixed g.search

-- ---- the places

-- what c adds before call number pos of a run
unfoldable pub adds_f : (ℕ → ℕ → Float) → List ℕ → ℕ → ℕ → Float
adds_f leg run pos c =
    let prev = place_before run pos in
    let next = get_or run pos 0 in
    Ieee.sub binary64 (Ieee.add binary64 (leg prev c) (leg c next)) (leg prev next)

-- that place in run k
abbrev pub spot_f : (ℕ → ℕ → Float) → ℕ → ℕ → List ℕ → ℕ → Spot
spot_f leg k c run pos = record { run = k; pos = pos; cost = adds_f leg run pos c }

-- each place in run k, from before the first call to behind the last
abbrev pub places_in : (ℕ → ℕ → Float) → ℕ → ℕ → List ℕ → List Spot
places_in leg k c run = map (spot_f leg k c run) (count 0 (suc (length run)))

-- those of a run that has room
abbrev pub offered : Bool → List Spot → List Spot
offered fits places = cond fits places []

-- the places of c in run k, where there is room for it
abbrev pub places_of : (ℕ → ℕ → Float) → (ℕ → List ℕ → Bool) → ℕ → ℕ → List ℕ → List Spot
places_of leg room c k run = offered (room c run) (places_in leg k c run)

-- places in each run, from run k on
unfoldable pub each_from : (ℕ → List ℕ → List Spot) → ℕ → List (List ℕ) → List Spot
each_from places k [] = []
each_from places k (r ∷ rs) = places k r ++ each_from places (suc k) rs

-- ---- the best of them

-- from the first element to the last
unfoldable pub folded : {A B : Type 0} → (B → A → B) → B → List A → B
folded f b [] = b
folded f b (x ∷ l) = folded f (f b x) l

-- no place: what is added is infinite
abbrev pub nowhere_f : Spot
nowhere_f = record { run = 0; pos = 0; cost = inf false }

-- the cheaper of two places, the first among equals
abbrev pub cheaper_f : Spot → Spot → Spot
cheaper_f best x = cond (Ieee.lt x.cost best.cost) x best

-- less is added than is saved
abbrev pub pays_f : Mover → Float → Bool
pays_f m cost = Ieee.lt (Ieee.add binary64 m.added cost) m.saved

-- the best place so far, or one that pays, is cheaper and is allowed
abbrev pub better_f : Mover → Spot → Spot → Bool → Spot
better_f m best x allowed = cond (pays_f m x.cost && (Ieee.lt x.cost best.cost && allowed)) x best

-- cheaper than the best so far, and it pays
abbrev pub wanted_f : Mover → Spot → Float → Bool
wanted_f m best cost = Ieee.lt cost best.cost && pays_f m cost

-- place number r of a run is the first from number `from` on that is wanted; there is none where it is behind the last
pub record Wants (m : Mover) (best : Spot) (leg : ℕ → ℕ → Float) (run : List ℕ) (from r : ℕ) : Type 0 where
  pub at_least : from ≤ r
  pub at_most : r ≤ suc (length run)
  pub passed : (j : ℕ) → from ≤ j → j < r → wanted_f m best (adds_f leg run j m.call) ≡ false
  pub wanted : r ≤ length run → wanted_f m best (adds_f leg run r m.call) ≡ true

module _ (G : GivenF) where
  abbrev pub leg_f : ℕ → ℕ → Float
  leg_f = distance_f G.tables

  abbrev pub demand_f : ℕ → Load
  demand_f = Tables.demand_f G.tables.customers

  abbrev pub rooms_f : ℕ → List ℕ → Bool
  rooms_f = room_f demand_f G.capacity

  abbrev pub candidates_f : ℕ → List (List ℕ) → List Spot
  candidates_f c runs = each_from (places_of leg_f rooms_f c) 0 runs

  -- a run is not too long with c at this place, which adds so much, and in time
  unfoldable pub fits_in_f : ℕ → List ℕ → ℕ → Float → Bool
  fits_in_f c run pos cost =
      let limits = G.search.limits in
      within_f limits.max_distance (Ieee.add binary64 (far_f limits leg_f run) cost)
      && timely floats (travel_f G.tables) (hours_f G.tables.customers) (day_f limits) run pos c

  -- where that is asked
  unfoldable pub allowed_f : ℕ → List ℕ → Spot → Bool
  allowed_f c run x = cond G.search.constrained (fits_in_f c run x.pos x.cost) true

  module _ (m : Mover) where
    -- of the places in one run, and of those in several
    abbrev pub better_in : List ℕ → Spot → Spot → Spot
    better_in run best x = better_f m best x (allowed_f m.call run x)

    abbrev pub better_of : List (List ℕ) → Spot → Spot → Spot
    better_of runs best x = better_in (run_at runs x.run) best x

    -- the best of all
    abbrev pub tested_f : List (List ℕ) → Spot
    tested_f runs = folded (better_of runs) nowhere_f (candidates_f m.call runs)

    -- the first of the cheapest, if it pays and is allowed; or else the first of the cheapest that do
    unfoldable pub best_f : List (List ℕ) → Option Spot
    best_f runs =
        let least = folded cheaper_f nowhere_f (candidates_f m.call runs) in
        let best = tested_f runs in
        let allowed = allowed_f m.call (run_at runs least.run) least in
        cond (pays_f m least.cost) (cond allowed (Some least) (given (pays_f m best.cost) best)) None

-- ---- what is answered

-- a place in one of the runs
pub record Inside (runs : List (List ℕ)) (x : Spot) : Type 0 where
  pub run_inside : x.run < length runs
  pub pos-inside : x.pos ≤ length (run_at runs x.run)

pub record Finds (o : Option Spot) (runs : List (List ℕ)) (b : (Option Spot)) : Type 0 where
  pub is : b ≡ o
  pub inside : Holds (Inside runs) b
