-- The totals of a run by its placement, and by whether it has a break. Assumes nothing.
use Prim.Native.Nat.{ℕ}
use mathlib.Core.Path.{◌≡◌, ap, ◌∙◌}
use mathlib.Core.List.{List}
use Rattle.std.specs.Prelude.{Option, None, Some}
use lib.Ieee.{Float}
use Rattle.definitions.specs.Sheet.{BreakOf}
use Rattle.models.specs.declared.placement.Placement.{Placement}
use Rattle.models.specs.declared.placement.Placement.TheVariants.{Clock, Least}
use Rattle.evaluation.specs.Records.{Tables, LimitsF}
use Rattle.evaluation.specs.Route.{allowed_f}
use Rattle.placements.specs.Placed.{least_f, least_by, totals_by}

module _ (t : Tables) (limits : LimitsF) (calls : List ℕ) (p : Placement) where
  pub clock-totals : p ≡ Clock → totals_by t limits p calls ≡ allowed_f t limits calls
  unfolding totals_by
  clock-totals e = ap (λ (q : Placement). totals_by t limits q calls) e

  module _ (e : p ≡ Least) where
    least_by_lem : totals_by t limits p calls ≡ least_by t limits limits.rest calls
    unfolding totals_by
    least_by_lem = ap (λ (q : Placement). totals_by t limits q calls) e

    pub plain-totals : limits.rest ≡ None → totals_by t limits p calls ≡ allowed_f t limits calls
    plain-totals r = least_by_lem ∙ ap (λ (o : Option (BreakOf Float)). least_by t limits o calls) r

    pub least-totals : (b : BreakOf Float) → limits.rest ≡ Some b → totals_by t limits p calls ≡ least_f t b limits calls
    least-totals b r = least_by_lem ∙ ap (λ (o : Option (BreakOf Float)). least_by t limits o calls) r
