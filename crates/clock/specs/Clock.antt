-- The break clock on floats, step by step as the code has it. Definitions only.
use Rattle.std.specs.Prelude.{ℕ, ◌+◌, Bool, cond, ◌||◌, Float, Option, None, Some}
use Rattle.std.specs.Float.Ieee as Ieee
use Rattle.std.specs.Float.{binary64}
use Rattle.basics.specs.Options.{◌>>=◌, holds, present}
use Rattle.definitions.specs.Sheet.{BreakOf, CustomerOf}
use Rattle.clock.specs.declared.schedule.Label.{Label}
use Rattle.clock.specs.declared.schedule.Scheduled.{Scheduled}
use Rattle.clock.specs.Records.{ClockF}
use Rattle.clock.specs.Serving.{start_label, carry_f, earlier_f}

-- home before earliest needs no break
abbrev pub excused_f : BreakOf Float → Float → Bool
excused_f b home = Ieee.lt home b.earliest

abbrev pub is_excused_f : BreakOf Float → Float → Option Label → Bool
is_excused_f b back o = holds o (λ l. excused_f b (Ieee.add binary64 l.time back))

-- before the first call
abbrev pub begun_f : BreakOf Float → ClockF
begun_f b = record { rest = b; before = Some start_label; after = None; prev = 0; index = 1 }

-- the before-label with one call more
abbrev pub skipped_f : ClockF → CustomerOf Float → Float → Option Label
skipped_f x c travel = carry_f c None x.index travel x.before

-- the after-label: the smaller of the one carried on and the before-label broken here
abbrev pub taken_f : ClockF → CustomerOf Float → Float → Option Label
taken_f x c travel =
    earlier_f (carry_f c None x.index travel x.after) (carry_f c (Some x.rest) x.index travel x.before)

-- one call more
unfoldable pub push_f : ClockF → ℕ → CustomerOf Float → Float → ClockF
push_f x cid c travel =
    record {
      rest = x.rest;
      before = skipped_f x c travel;
      after = taken_f x c travel;
      prev = cid;
      index = x.index + 1;
    }

-- a label is left
abbrev pub alive_f : ClockF → Bool
alive_f x = present x.before || present x.after

-- a before-label that needs no break counts, and else the after-label
unfoldable pub counts_f : Float → ClockF → Option Label
counts_f back x = cond (is_excused_f x.rest back x.before) x.before x.after

abbrev pub home_f : Float → Float → Label → Scheduled
home_f distance back l =
    record {
      distance = distance;
      duration = Ieee.add binary64 l.time back;
      lateness = l.lateness;
      cost = l.cost;
      place = l.place;
    }

unfoldable pub finish_f : Float → Float → ClockF → Option Scheduled
finish_f distance back x = counts_f back x >>= λ l. Some (home_f distance back l)
