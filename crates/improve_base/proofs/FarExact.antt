-- On a sheet within the limits the guard by the distance of a run and a change to it is the test of the limit. Assumes nothing.
use Prim.Native.Nat.{ℕ, ◌≤◌}
use mathlib.Core.Path.{◌≡◌, refl}
use mathlib.Core.Bool.{cond}
use mathlib.Core.List.{List}
use Rattle.std.specs.Prelude.{Option, None, Some, option_map}
use lib.Ieee as Ieee
use lib.Ieee.{Float, binary64}
use Rattle.basics.specs.Options.{present}
use Rattle.definitions.specs.Sheet.{Sheet}
use Rattle.definitions.specs.Limits.{within}
use Rattle.whole.specs.Whole.{fl, limit}
use Rattle.bounds.specs.Sized.{Sized}
use Rattle.models.specs.Limits.{within_f}
use Rattle.models.proofs.Exact.{Small, within-exact}
use Rattle.evaluation.specs.Image.{fl_limits}
use Rattle.evaluation.proofs.RouteExact.{small-limit}
use Rattle.improve_base.specs.Route.{route_distance_f, far_f}

-- the guard on floats, where the sum of distance and change is this
pub guard-exact : (s : Sheet) → Sized s → (leg : ℕ → ℕ → Float) (run : List ℕ) (delta : Float) (n : ℕ) → n ≤ limit
    → Ieee.add binary64 (route_distance_f leg run) delta ≡ fl n
    → within_f (fl_limits s).max_distance (Ieee.add binary64 (far_f (fl_limits s) leg run) delta) ≡ within s.head.max_distance n
unfolding far_f
guard-exact s S leg run delta n h e = go s.head.max_distance (small-limit s.head.max_distance S.far-small)
  where
    go : (o : Option ℕ) → Small o
        → within_f (option_map fl o) (Ieee.add binary64 (cond (present (option_map fl o)) (route_distance_f leg run) (fl 0)) delta) ≡ within o n
    go None m = refl
    go (Some most) m = rw e (within-exact (Some most) n m h)
