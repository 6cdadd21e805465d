-- On a sheet within the limits that closes no leg, held in floats, the distance of a run is the whole-number one. Assumes nothing.
use Prim.Native.Nat.{ℕ, ◌+◌, ◌≤◌}
use native.Mathlib.Nat.{add_assoc}
use native.Mathlib.Omega.{arith}
use mathlib.Core.Path.{◌≡◌, refl, ap, ◌∙◌}
use mathlib.Core.Bool.{false}
use mathlib.Core.List.{List, [], ◌∷◌}
use Rattle.std.specs.Prelude.{Some}
use lib.ListN.{length}
use lib.Ieee.{Float}
use Rattle.basics.specs.Lists.{All}
use Rattle.definitions.specs.Domain.{most_calls}
use Rattle.definitions.specs.Sheet.{Sheet}
use Rattle.definitions.specs.Improver.{open_leg, legs_from, given_of, distance_of}
use Rattle.definitions.specs.Refusals.{any_closed}
use Rattle.bounds.specs.Sized.{Sized, Place}
use Rattle.bounds.proofs.Inside.{depot-inside}
use Rattle.bounds.proofs.BoundLaws.{legs-most, open-small}
use Rattle.whole.specs.Whole.{fl, limit}
use Rattle.whole.proofs.WholeLaws.{fl-add}
use Rattle.evaluation.specs.Records.{Tables}
use Rattle.evaluation.specs.Image.{Image}
use Rattle.improve_base.specs.Leg.{distance_f}
use Rattle.improve_base.specs.Route.{home_f, route_distance_f}
use Rattle.improve_base.proofs.LegExact.{distance-exact}

module _ (s : Sheet) (S : Sized s) (O : any_closed Some s.legs ≡ false) (t : Tables) (I : Image s t) where
  abbrev leg : ℕ → ℕ → Float
  leg = distance_f t

  home-exact : (far a : ℕ) (calls : List ℕ) → Place s a → All (Place s) calls → far + legs_from (open_leg s) a calls ≤ limit → home_f leg (fl far) a calls ≡ fl (far + legs_from (open_leg s) a calls)
  unfolding home_f
  home-exact far a [] p i h = rw (distance-exact s S O t I a 0 p (depot-inside s S)) (fl-add far (open_leg s a 0) (omega arith) (omega arith))
  home-exact far a (c ∷ cs) p i h =
      rw (distance-exact s S O t I a c p i.0, fl-add far (open_leg s a c) (omega arith) (omega arith))
      (home-exact (far + open_leg s a c) c cs i.0 i.1 (omega arith) ∙ ap fl (add_assoc far (open_leg s a c) (legs_from (open_leg s) c cs)))

  pub route-distance-exact : (run : List ℕ) → length run ≤ most_calls → All (Place s) run → route_distance_f leg run ≡ fl (distance_of (given_of s) run)
  unfolding route_distance_f
  route-distance-exact [] few i = refl
  route-distance-exact (c ∷ cs) few i =
      rw (distance-exact s S O t I 0 c (depot-inside s S) i.0) (home-exact (open_leg s 0 c) c cs i.0 i.1 (omega (arith, legs-most (open_leg s) (open-small s S) 0 (c ∷ cs))))
