-- Ready above due, and earliest above latest, by the floats' own order. Definitions only.
use Rattle.std.specs.Prelude.{Bool, false, ◌||◌, Float, Option, None, Some}
use Rattle.std.specs.Float.Ieee as Ieee
use Rattle.basics.specs.Lists.{any}
use Rattle.definitions.specs.Sheet.{WindowOf, BreakOf, CustomerOf, SheetOf, records}

abbrev pub window_falls_f : Option (WindowOf Float) → Bool
window_falls_f None = false
window_falls_f (Some w) = Ieee.lt w.due w.ready

abbrev pub break_falls_f : Option (BreakOf Float) → Bool
break_falls_f None = false
break_falls_f (Some b) = Ieee.lt b.latest b.earliest

unfoldable pub pairs_fall_f : SheetOf Float → Bool
pairs_fall_f s = break_falls_f s.head.rest || any (λ (c : CustomerOf Float). window_falls_f c.window) (records s)
