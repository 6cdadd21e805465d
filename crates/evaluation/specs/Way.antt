-- The way through calls with no break, from anywhere on, on floats, step by step as the code has it. Definitions only.
use Rattle.std.specs.Prelude.{ℕ, suc, cond, List, [], ◌∷◌, Float, Option, None, Some}
use Rattle.std.specs.Float.Ieee as Ieee
use Rattle.std.specs.Float.{binary64}
use Rattle.basics.specs.Options.{◌>>=◌, present}
use Rattle.definitions.specs.Sheet.{CustomerOf}
use Rattle.whole.specs.Whole.{fl}
use Rattle.distance.specs.declared.leg.Leg.{Leg}
use Rattle.clock.specs.declared.schedule.Scheduled.{Scheduled}
use Rattle.clock.specs.Serving.{start_label, serve_f}
use Rattle.clock.specs.Clock.{home_f}
use Rattle.evaluation.specs.declared.way.Way.{Way}
use Rattle.evaluation.specs.Records.{Tables}
use Rattle.evaluation.specs.Tables.{record_f, leg_f}

-- before the first call
abbrev pub start_way : Way
start_way = record { distance = fl 0; label = start_label; prev = 0 }

-- one call more, so far and so long away
unfoldable pub way_on_f : CustomerOf Float → Float → Float → Way → ℕ → Option Way
way_on_f c leg travel w cid =
    serve_f c None 0 travel w.label >>= λ l. Some (record { distance = Ieee.add binary64 w.distance leg; label = l; prev = cid })

module _ (leg : ℕ → ℕ → Option Leg) (customer : ℕ → CustomerOf Float) where
  -- the way on through these calls; a closed leg ends it
  unfoldable pub through_f : Way → List ℕ → Option Way
  through_f w [] = Some w
  through_f w (c ∷ cs) = leg w.prev c >>= λ g. way_on_f (customer c) g.distance g.time w c >>= λ v. through_f v cs

-- the same by the tables
abbrev pub way_f : Tables → Way → List ℕ → Option Way
way_f t w calls = through_f (leg_f t) (record_f t) w calls

abbrev pub homeward_f : Tables → Way → Option Scheduled
homeward_f t d = leg_f t d.prev 0 >>= λ g. Some (home_f (Ieee.add binary64 d.distance g.distance) g.time d.label)

-- the totals of a run that these calls end
unfoldable pub plain_f : Tables → Way → List ℕ → Option Scheduled
plain_f t w calls = way_f t w calls >>= homeward_f t

module _ (leg : ℕ → ℕ → Option Leg) where
  -- the number of the first closed leg from a on, where that leg is number k
  unfoldable pub closed_f : ℕ → ℕ → List ℕ → Option ℕ
  closed_f k a [] = cond (present (leg a 0)) None (Some k)
  closed_f k a (c ∷ cs) = cond (present (leg a c)) (closed_f (suc k) c cs) (Some k)
