-- What `split` lends to the cut: terms on which loads and closed legs alone count. Definitions only.
use Rattle.std.specs.Prelude.{ℕ, true, List, Float, None}
use Rattle.models.specs.declared.customer.Customer.{Customer}
use Rattle.models.specs.declared.limits.RouteLimits.{RouteLimits}
use Rattle.models.specs.declared.load.Space.{Space}
use Rattle.models.specs.declared.placement.Placement.TheVariants.{Clock}
use Rattle.cut_runs.specs.Runs.{Instance, lent_on}

abbrev pub no_limits : RouteLimits
no_limits = record { max_distance = None; max_duration = None; rest = None }

abbrev pub bare_lent : List Customer → List Float → List Float → ℕ → Space → Float → Instance
bare_lent customers distances times size capacity fixed =
    lent_on customers distances times size
    (record { capacity = capacity; fixed = fixed; limits = no_limits; placement = Clock; loads_alone = true })
