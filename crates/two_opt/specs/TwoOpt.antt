-- two_opt_improve on floats, step by step as the code has it. Definitions only.
use Rattle.std.specs.Prelude.{ℕ, zero, suc, ◌-◌, Bool, true, false, cond, not, List, [], ◌∷◌, length, Float}
use Rattle.std.specs.Float.Ieee as Ieee
use Rattle.std.specs.Float.{binary64}
use Rattle.basics.specs.Lists.{count}
use Rattle.definitions.specs.TwoOpt.{turned}
use Rattle.models.specs.Limits.{within_f}
use Rattle.evaluation.specs.Records.{Tables}
use Rattle.evaluation.specs.Route.{feasible_f}
use Rattle.improve_base.specs.Leg.{distance_f}
use Rattle.improve_base.specs.Search.{SearchF}
use Rattle.improve_base.specs.Route.{route_distance_f, far_f}
use Rattle.two_opt.specs.Rules.{RulesF, rules_f}
use Rattle.two_opt.specs.Delta.{delta_f}

-- the run, and whether a reversal was taken on the way to it
pub record State : Type 0 where
  pub run : List ℕ
  pub improved : Bool

abbrev pub state : List ℕ → Bool → State
state run improved = record { run = run; improved = improved }

-- enough for every sheet: a run is at most 129 legs of 10,000,000 long, and each pass that takes a reversal makes it shorter by 1 at the
-- least
abbrev pub most_passes : ℕ
most_passes = 1290000000

-- turning the calls from i up to and with j gains enough to count
abbrev pub gains_f : (ℕ → ℕ → Float) → RulesF → ℕ → ℕ → List ℕ → Bool
gains_f leg s i j run = Ieee.lt (delta_f leg s.symmetric i j run) (Ieee.neg s.floor)

-- with the calls from i up to and with j turned, a run is longer than its limit
unfoldable pub too_far_f : (ℕ → ℕ → Float) → RulesF → ℕ → ℕ → List ℕ → Bool
too_far_f leg s i j run =
    let delta = delta_f leg s.symmetric i j run in
    not (within_f s.limits.max_distance (Ieee.add binary64 (far_f s.limits leg run) delta))

module _ (t : Tables) (s : RulesF) where
  -- a run that the search may make: feasible, where that is asked
  abbrev pub allowed_f : List ℕ → Bool
  allowed_f run = cond s.constrained (feasible_f t s.limits run) true

  -- the calls from i up to and with j are turned where the run that this makes is not too long and is allowed
  unfoldable pub reversed_f : ℕ → ℕ → State → State
  reversed_f i j x =
      let new = turned i j x.run in
      let made = cond (allowed_f new) (state new true) x in
      cond (too_far_f (distance_f t) s i j x.run) x made

  -- where that gains
  unfoldable pub tried_f : ℕ → ℕ → State → State
  tried_f i j x = cond (gains_f (distance_f t) s i j x.run) (reversed_f i j x) x

  -- for the first call i of the stretch, each of these last calls in turn
  unfoldable pub tried_each_f : ℕ → List ℕ → State → State
  tried_each_f i [] x = x
  tried_each_f i (j ∷ js) x = tried_each_f i js (tried_f i j x)

  -- each call after it, in a run of n calls
  abbrev pub tried_all_f : ℕ → ℕ → State → State
  tried_all_f n i x = tried_each_f i (count (suc i) (n - suc i)) x

  -- a pass: each first call in turn
  unfoldable pub pass_from_f : ℕ → List ℕ → State → State
  pass_from_f n [] x = x
  pass_from_f n (i ∷ is) x = pass_from_f n is (tried_all_f n i x)

  unfoldable pub pass_f : List ℕ → State
  pass_f run = pass_from_f (length run) (count 0 (length run - 1)) (state run false)

  -- passes until one takes no reversal, so many at the most
  unfoldable pub passes_f : ℕ → List ℕ → List ℕ
  passes_f zero run = run
  passes_f (suc left) run =
      let x = pass_f run in
      let more = passes_f left x.run in
      cond x.improved more x.run

module _ (t : Tables) (s : SearchF) where
  -- the calls that two_opt_improve gives
  unfoldable pub improved_f : List ℕ → List ℕ
  improved_f run = passes_f t (rules_f (distance_f t) t.distances s run) most_passes run

  -- and the distance that it gives beside them
  abbrev pub improved_distance_f : List ℕ → Float
  improved_distance_f run = route_distance_f (distance_f t) (improved_f run)
