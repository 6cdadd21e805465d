-- A timeline of whole numbers, each figure held in a float. Definitions only.
use Rattle.std.specs.Prelude.{map}
use Rattle.definitions.specs.Timeline.{Timeline, route_of}
use Rattle.whole.specs.Whole.{fl}
use Rattle.visits.specs.Image.{fl_route}
use Rattle.timeline.specs.Timing.{TimelineF}

abbrev pub fl_timeline : Timeline → TimelineF
fl_timeline t = record { route = fl_route (route_of t); begins = map (λ x. fl x.begin) t.stops }
