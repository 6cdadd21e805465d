-- What the clock's structs and enums hold. Definitions only.
use Rattle.std.specs.Prelude.{ℕ, Float, Option}
use Rattle.definitions.specs.Sheet.{BreakOf}
use Rattle.models.specs.Records.{break_of}
use Rattle.clock.specs.declared.schedule.Label.{Label}
use Rattle.clock.specs.declared.schedule.BreakClock.{BreakClock}

-- the break, the labels before and after it, the last place, and the number of the next call, from 1
pub record ClockF : Type 0 where
  pub rest : BreakOf Float
  pub before : Option Label
  pub after : Option Label
  pub prev : ℕ
  pub index : ℕ

abbrev pub clock_of : BreakClock → ClockF
clock_of x =
    record {
      rest = break_of x.rest;
      before = x.before;
      after = x.after;
      prev = x.prev;
      index = x.index;
    }
