-- What a cutting gives on floats: served customers, run ends, dropped positions, cost and distance. Definitions only.
use Rattle.std.specs.Prelude.{ℕ, ◌≡◌, List, length, Float}
use Rattle.definitions.specs.Drop.{calls_at, Held}
use Rattle.cut_runs.specs.Tariff.{Tariff, ends_f, cost_f, distance_f}

pub record ResultF : Type 0 where
  pub served : List ℕ
  pub ends : List ℕ
  pub dropped : List ℕ
  pub cost : Float
  pub distance : Float

-- of the calls of a tour, some are held and cut, and the others are dropped
abbrev pub plan_f : Tariff → List ℕ → Held → ResultF
plan_f T tour h =
    let held = calls_at tour h.held in
    record { served = held; ends = ends_f T held; dropped = h.dropped; cost = cost_f T held; distance = distance_f T held }

-- how many calls are served, runs made and calls dropped, and what they come to
pub record Counted (x : ResultF) (served runs dropped : ℕ) (cost distance : Float) : Type 0 where
  pub served-count : served ≡ length x.served
  pub runs-count : runs ≡ length x.ends
  pub dropped-count : dropped ≡ length x.dropped
  pub cost-is : cost ≡ x.cost
  pub distance_is : distance ≡ x.distance
