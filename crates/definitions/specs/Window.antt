-- Customer and window: late, waiting, and entering a window. As in Solomon's vehicle routing problem with time windows (1987): a bus that
-- is there before ready waits, service starts at the later of the two, and a start after due is not allowed; a penalty, which that
-- problem has not, allows it at a price. Definitions only.
use Rattle.std.specs.Prelude.{ℕ, ◌-◌, ◌*◌, max, Bool, cond, ltb, Option, None, Some}
use Rattle.definitions.specs.Sheet.{Window}

-- when the window shuts, if there is one
abbrev pub due_of : Option Window → ℕ
due_of None = 0
due_of (Some w) = w.due

-- late means arrival above due; equal is on time
abbrev pub late : Window → ℕ → Bool
late w arrival = ltb w.due arrival

-- waiting is ready minus arrival, if positive
abbrev pub waiting : Window → ℕ → ℕ
waiting w arrival = w.ready - arrival

-- how far the arrival is above due
abbrev pub lateness : Window → ℕ → ℕ
lateness w arrival = arrival - w.due

-- wait to ready
abbrev pub begins : Option Window → ℕ → ℕ
begins None readiness = readiness
begins (Some w) readiness = max readiness w.ready

-- when service starts, how late it is, and the lateness pay for that
pub record Entry : Type 0 where
  pub start : ℕ
  pub lateness : ℕ
  pub pay : ℕ

-- readiness after due fails without a penalty; with one it adds the lateness, and penalty times lateness
unfoldable pub enter : Option Window → Option ℕ → ℕ → Option Entry
enter None penalty readiness = Some (record { start = readiness; lateness = 0; pay = 0 })
enter (Some w) None readiness = cond (late w readiness) None (Some (record { start = begins (Some w) readiness; lateness = 0; pay = 0 }))
enter (Some w) (Some penalty) readiness =
    Some (record { start = begins (Some w) readiness; lateness = lateness w readiness; pay = penalty * lateness w readiness })
