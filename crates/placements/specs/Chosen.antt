-- The placement that the code's enum names. Definitions only.
use Rattle.definitions.specs.Placement.{Placement, by_clock, by_pay}
use Rattle.models.specs.declared.placement.Placement as Code
use Rattle.models.specs.declared.placement.Placement.TheVariants.{Clock, Least}

abbrev pub placement_of : Code.Placement → Placement
placement_of Clock = by_clock
placement_of Least = by_pay
