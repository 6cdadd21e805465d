-- Serving a call on floats, step by step as the code has it. Definitions only.
use Rattle.std.specs.Prelude.{ℕ, Bool, cond, ◌&&◌, ◌||◌, Float, Option, None, Some}
use Rattle.std.specs.Float.Ieee as Ieee
use Rattle.std.specs.Float.{binary64}
use Rattle.basics.specs.Options.{◌>>=◌}
use Rattle.definitions.specs.Sheet.{WindowOf, BreakOf, CustomerOf}
use Rattle.whole.specs.Whole.{fl}
use Rattle.whole.specs.Larger.{larger_f}
use Rattle.models.specs.Window.{late_f, waiting_f, lateness_f}
use Rattle.clock.specs.declared.schedule.Label.{Label}

-- a run starts at time 0, nothing late
abbrev pub start_label : Label
start_label = record { time = fl 0; lateness = fl 0; cost = fl 0; place = 0 }

-- the label at another time
abbrev pub at_time : Float → Label → Label
at_time t l = record { time = t; lateness = l.lateness; cost = l.cost; place = l.place }

-- ---- the break at a call

-- it starts at the later of arrival and earliest
abbrev pub break_start_f : BreakOf Float → Float → Float
break_start_f b arrival = larger_f arrival b.earliest

-- readiness: after the break, if it is here and starts by latest, and else the arrival
unfoldable pub ready_f : Option (BreakOf Float) → Float → Option Float
ready_f None arrival = Some arrival
ready_f (Some b) arrival =
    cond (Ieee.lt b.latest (break_start_f b arrival)) None (Some (Ieee.add binary64 (break_start_f b arrival) b.duration))

abbrev pub place_after_f : Option (BreakOf Float) → ℕ → ℕ → ℕ
place_after_f None k place = place
place_after_f (Some b) k place = k

-- ---- the window

-- the label with so much lateness more, at this penalty
abbrev pub late_by : Float → Float → Label → Label
late_by penalty late l =
    record {
      time = l.time;
      lateness = Ieee.add binary64 l.lateness late;
      cost = Ieee.add binary64 l.cost (Ieee.mul binary64 penalty late);
      place = l.place;
    }

-- late fails without a penalty; with one it adds the lateness, and penalty times lateness
unfoldable pub charge_f : WindowOf Float → Option Float → Float → Label → Option Label
charge_f w penalty readiness l = cond (late_f w readiness) (penalty >>= λ p. Some (late_by p (lateness_f w readiness) l)) (Some l)

-- the label as service starts
unfoldable pub enter_f : Option (WindowOf Float) → Option Float → Float → Label → Option Label
enter_f None penalty readiness l = Some (at_time readiness l)
enter_f (Some w) penalty readiness l =
    charge_f w penalty readiness l >>= λ m. Some (at_time (Ieee.add binary64 readiness (waiting_f w readiness)) m)

-- ---- a call

-- the label with the call left after its service, and the break place
abbrev pub leave_f : Float → ℕ → Label → Label
leave_f service place l = record { time = Ieee.add binary64 l.time service; lateness = l.lateness; cost = l.cost; place = place }

-- call number k, a travel time away, with the break there if `here` has one
unfoldable pub serve_f : CustomerOf Float → Option (BreakOf Float) → ℕ → Float → Label → Option Label
serve_f c here k travel l = do
  readiness ← ready_f here (Ieee.add binary64 l.time travel)
  m ← enter_f c.window c.penalty readiness l
  Some (leave_f c.service (place_after_f here k l.place) m)

abbrev pub carry_f : CustomerOf Float → Option (BreakOf Float) → ℕ → Float → Option Label → Option Label
carry_f c here k travel o = o >>= serve_f c here k travel

-- ---- two labels

-- smaller by time, then by lateness cost
abbrev pub smaller_f : Label → Label → Bool
smaller_f y x = Ieee.lt y.time x.time || (Ieee.eq y.time x.time && Ieee.lt y.cost x.cost)

-- the smaller of the two; a tie keeps the first
unfoldable pub earlier_f : Option Label → Option Label → Option Label
earlier_f None y = y
earlier_f (Some x) None = Some x
earlier_f (Some x) (Some y) = cond (smaller_f y x) (Some y) (Some x)
