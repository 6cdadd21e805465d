-- The walk through the calls of a run with its break place on floats, step by step as the code has it. Definitions only.
use Rattle.clock.specs.declared.schedule.Scheduled.{Scheduled}
use Rattle.std.specs.Prelude.{ℕ, suc, cond, List, [], ◌∷◌, eqb, Float, Option, None, Some, Result, Ok, Err}
use Rattle.std.specs.Float.Ieee as Ieee
use Rattle.std.specs.Float.{binary64}
use Rattle.basics.specs.Options.{value_or}
use Rattle.definitions.specs.Sheet.{BreakOf, CustomerOf}
use Rattle.whole.specs.Whole.{fl}
use Rattle.models.specs.Window.{due_f}
use Rattle.clock.specs.declared.schedule.Label.{Label}
use Rattle.clock.specs.Serving.{break_start_f, ready_f, serve_f}
use Rattle.clock.specs.Clock.{home_f}
use Rattle.evaluation.specs.Records.{Tables}
use Rattle.evaluation.specs.Tables.{record_f, leg_f}
use Rattle.marker.specs.declared.verdict.Verdict.{Verdict}
use Rattle.marker.specs.declared.verdict.Verdict.TheVariants.{BreakTooLate, WindowMissed, RoadClosed}

-- the break, at the call that has it alone
abbrev pub break_at_f : Option (BreakOf Float) → ℕ → ℕ → Option (BreakOf Float)
break_at_f rest place k = cond (eqb place k) rest None

abbrev pub break_or_f : Option (BreakOf Float) → BreakOf Float
break_or_f b = value_or (record { earliest = fl 0; latest = fl 0; duration = fl 0 }) b

-- why the call number k of run n, at customer c, fails: break start past latest before window
unfoldable pub call_fault_f : (n k c : ℕ) → CustomerOf Float → Option (BreakOf Float) → Float → Verdict
call_fault_f n k c customer here arrival =
    elim (ready_f here arrival) [
      | None ↦ BreakTooLate n k c (break_start_f (break_or_f here) arrival) (break_or_f here).latest
      | Some readiness ↦ WindowMissed n k c readiness (due_f customer.window)
    ]

-- the calls of run n from number k on, served from place a with the label l, `far` behind it, and the way home; a closed leg stops the walk
unfoldable pub walk_f : Tables → Option (BreakOf Float) → (n place k : ℕ) → Float → ℕ → Label → List ℕ → Result Scheduled Verdict
walk_f t rest n place k far a l [] =
    elim (leg_f t a 0) [
      | None ↦ Err (RoadClosed n k)
      | Some g ↦ Ok (home_f (Ieee.add binary64 far g.distance) g.time l)
    ]
walk_f t rest n place k far a l (c ∷ cs) =
    elim (leg_f t a c) [
      | None ↦ Err (RoadClosed n k)
      | Some g ↦ elim (serve_f (record_f t c) (break_at_f rest place k) k g.time l) [
        | None ↦ Err (call_fault_f n k c (record_f t c) (break_at_f rest place k) (Ieee.add binary64 l.time g.time))
        | Some m ↦ walk_f t rest n place (suc k) (Ieee.add binary64 far g.distance) c m cs
      ]
    ]
