-- What `split` lends, by what it is lent itself. Definitions only.
use Rattle.std.specs.Prelude.{map, None}
use Rattle.models.specs.declared.placement.Placement.TheVariants.{Clock}
use Rattle.cut_runs.specs.Runs.{Instance, bare_f}

-- the same tables with records without windows and penalties, and neither limits nor a break
abbrev pub bare_of : Instance → Instance
bare_of I =
    let t = I.tables in
    record {
      tables = record { customers = map bare_f t.customers; distances = t.distances; times = t.times; size = t.size };
      capacity = I.capacity;
      fixed = I.fixed;
      limits = record { max_distance = None; max_duration = None; rest = None };
      placement = Clock;
    }
