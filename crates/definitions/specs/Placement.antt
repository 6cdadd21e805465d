-- Where the break goes in a run with no place named: where the clock puts it, or where the least is paid for lateness. Definitions only.
use Rattle.std.specs.Prelude.{ℕ, Bool, cond, ◌&&◌, ◌||◌, List, [], ◌∷◌, map, length, ltb, eqb, Option, None, Some}
use Rattle.basics.specs.Options.{◌>>=◌, given}
use Rattle.basics.specs.Lists.{count}
use Rattle.definitions.specs.Sheet.{Sheet}
use Rattle.definitions.specs.Run.{Totals, ride, allowed, placed}
use Rattle.definitions.specs.Clock.{clock, Arc, arc_of, arc}

-- the two ways to place it
pub data Placement : Type 0 where
  by_clock : Placement
  by_pay : Placement

-- ---- the least lateness pay, wherever the break goes

-- what the run comes to with this break place, where the place is one that it may have and its totals are allowed
unfoldable pub ride_at : Sheet → List ℕ → ℕ → Option Totals
ride_at s calls place = do
  t ← ride s (record { calls = calls; place = place })
  given (allowed s t && placed s.head.rest place (length calls) t.duration) t

-- less lateness pay or, with the same, an earlier return
abbrev pub preferred : Totals → Totals → Bool
preferred new old = ltb new.pay old.pay || (eqb new.pay old.pay && ltb new.duration old.duration)

-- a tie keeps the old one
abbrev pub pick : Option Totals → Option Totals → Option Totals
pick None new = new
pick (Some old) None = Some old
pick (Some old) (Some new) = cond (preferred new old) (Some new) (Some old)

-- one after the other
abbrev pub pick_all : Option Totals → List (Option Totals) → Option Totals
pick_all old [] = old
pick_all old (new ∷ more) = pick_all (pick old new) more

-- no break first, then one at each call in order, so that of equals the earlier place is kept
unfoldable pub least_ride : Sheet → List ℕ → Option Totals
least_ride s calls = pick_all (ride_at s calls 0) (map (ride_at s calls) (count 1 (length calls)))

unfoldable pub least_arc : Sheet → List ℕ → Option Arc
least_arc s calls = least_ride s calls >>= arc_of s calls

-- ---- for either placement

-- what a run comes to, its place among it; none where it has no place
abbrev pub totals_by : Placement → Sheet → List ℕ → Option Totals
totals_by by_clock s calls = clock s calls
totals_by by_pay s calls = least_ride s calls

-- the price of a run; none where it is not legal
abbrev pub arc_by : Placement → Sheet → List ℕ → Option Arc
arc_by by_clock s calls = arc s calls
arc_by by_pay s calls = least_arc s calls
