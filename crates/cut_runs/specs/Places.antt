-- The runs along a stretch with the break at each of their places in turn, on floats as the code has them: the label of each place, its way
-- home, and the best of these. Definitions only.
use Rattle.std.specs.Prelude.{ℕ, zero, suc, List, get_or, eqb, Float, Option, Some}
use Rattle.basics.specs.Options.{◌>>=◌, given}
use Rattle.definitions.specs.Sheet.{BreakOf}
use Rattle.clock.specs.declared.schedule.Label.{Label}
use Rattle.clock.specs.declared.schedule.Scheduled.{Scheduled}
use Rattle.clock.specs.Serving.{start_label, serve_f}
use Rattle.clock.specs.Least.{KeptF, kept_home_f, excused_home_f, pick_f}
use Rattle.evaluation.specs.Records.{Tables}
use Rattle.evaluation.specs.Tables.{record_f, leg_f, place_before}
use Rattle.cut_runs.specs.Stretch.{way_of}

-- the break, at call number p alone
abbrev pub here_f : BreakOf Float → ℕ → ℕ → Option (BreakOf Float)
here_f b p k = given (eqb p k) b

-- home after the last call with the break at call p, and for 0 with none, where that keeps the limits and none is excused
abbrev pub home_by : BreakOf Float → KeptF → ℕ → Float → Float → Label → Option Scheduled
home_by b limits zero distance back l = excused_home_f b limits distance back l
home_by b limits (suc p) distance back l = kept_home_f limits distance back l

module _ (t : Tables) (st : List ℕ) (b : BreakOf Float) where
  -- the first m calls served with the break at call p; it is still to come where p is above m, and never comes for 0
  unfoldable pub label_of : ℕ → ℕ → Option Label
  label_of p zero = Some start_label
  label_of p (suc m) = do
    l ← label_of p m
    g ← leg_f t (place_before st m) (get_or st m 0)
    serve_f (record_f t (get_or st m 0)) (here_f b p (suc m)) (suc m) g.time l

  module _ (limits : KeptF) (m : ℕ) where
    -- and home
    unfoldable pub home_of : ℕ → Option Scheduled
    home_of p = do
      l ← label_of p m
      far ← way_of (leg_f t) st m
      back ← leg_f t (place_before st m) 0
      home_by b limits p far back.time l

    -- the best of the places up to p; of equals the first
    unfoldable pub least_to : ℕ → Option Scheduled
    least_to zero = home_of 0
    least_to (suc p) = pick_f (least_to p) (home_of (suc p))

    -- of all the run's places
    abbrev pub least_of : Option Scheduled
    least_of = least_to m
