-- Whole-number labels, totals and clocks, each number held in a float. Definitions only.
use Rattle.std.specs.Prelude.{ℕ, option_map}
use Rattle.definitions.specs.Sheet.{Break}
use Rattle.definitions.specs.Run as Whole
use Rattle.definitions.specs.Clock.{Clock}
use Rattle.whole.specs.Whole.{fl}
use Rattle.models.specs.Image.{fl_break}
use Rattle.clock.specs.declared.schedule.Label.{Label}
use Rattle.clock.specs.declared.schedule.Scheduled.{Scheduled}
use Rattle.clock.specs.Records.{ClockF}

abbrev pub fl_label : Whole.Label → Label
fl_label l = record { time = fl l.time; lateness = fl l.lateness; cost = fl l.pay; place = l.place }

abbrev pub fl_totals : Whole.Totals → Scheduled
fl_totals t =
    record {
      distance = fl t.distance;
      duration = fl t.duration;
      lateness = fl t.lateness;
      cost = fl t.pay;
      place = t.place;
    }

-- with the break b, after the place a, before call number k
abbrev pub fl_clock : Break → ℕ → ℕ → Clock → ClockF
fl_clock b a k x =
    record {
      rest = fl_break b;
      before = option_map fl_label x.before;
      after = option_map fl_label x.after;
      prev = a;
      index = k;
    }
