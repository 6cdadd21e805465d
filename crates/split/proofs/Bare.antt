-- What is lent to the cut is what `split` is lent, without windows, penalties, limits and break. Assumes nothing.
use Prim.Native.Nat.{ℕ}
use mathlib.Core.Path.{◌≡◌, refl}
use mathlib.Core.List.{List}
use lib.Ieee.{Float}
use Rattle.models.specs.declared.customer.Customer.{Customer}
use Rattle.models.specs.declared.limits.RouteLimits.{RouteLimits}
use Rattle.models.specs.declared.load.Space.{Space}
use Rattle.models.specs.declared.placement.Placement.TheVariants.{Clock}
use Rattle.cut_runs.specs.Runs.{lent}
use Rattle.split.specs.Split.{bare_lent}
use Rattle.split.specs.Bare.{bare_of}

pub lent-bare : (customers : List Customer) (distances times : List Float) (size : ℕ) (capacity : Space) (fixed : Float) (limits : RouteLimits)
    → bare_lent customers distances times size capacity fixed ≡ bare_of (lent customers distances times size capacity fixed limits Clock)
lent-bare customers distances times size capacity fixed limits = refl
