-- The answer of a cut in whole numbers, each number held in a float. Definitions only.
use Rattle.definitions.specs.Drop.{Result}
use Rattle.whole.specs.Whole.{fl}
use Rattle.split_tw.specs.Answer.{ResultF}

abbrev pub fl_result : Result → ResultF
fl_result r = record { served = r.served; ends = r.ends; dropped = r.dropped; cost = fl r.cost; distance = fl r.distance }
