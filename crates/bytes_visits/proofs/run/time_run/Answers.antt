-- `run::time_run` meets its contract. Assumes nothing.
use Prim.Native.Nat.{ℕ}
use mathlib.Core.Path.{◌≡◌, sym, subst, ◌∙◌}
use mathlib.Core.List.{List}
use Rattle.std.specs.Prelude.{None}
use Rattle.basics.specs.Options.{present}
use Rattle.models.specs.Load.{space_of}
use Rattle.models.specs.Records.{rest_of}
use Rattle.evaluation.specs.Records.{lent, limits_of}
use Rattle.timeline.specs.Timing.{Times}
use Rattle.bytes_visits.specs.Told.{lists, run_refusal}
use Rattle.bytes_visits.proofs.Refusing.{no-refusal, run-read}
use Rattle.bytes_visits.proofs.Timed.{timed-told}
use Rattle.bytes_visits.proofs.run.time_run.Goals as goal
use Rattle.bytes_visits.proofs.run.time_run.Goals.{After-widen-k}

-- nothing is refused
accepted : (x : After-widen-k)
    → run_refusal x.args.head.places (present (rest_of x.args.head.limits.rest)) x.args.run.now x.args.place ≡ None
accepted x = no-refusal _ _ _ _ (sym x.if-number-ne0.false ∙ x.refuse_run-number.ensures)

pub timeline_of-line-requires : goal.timeline_of-line-requires
timeline_of-line-requires c =
    let w = c.widen-k in
    let a = c.args in
    let read = run-read a.head.places _ a.run.now a.place (accepted (goal.at.timeline_of-line-requires c).After-widen-k) w.new.numbers w.result w.ensures.counted w.ensures.read in
    (read.few-calls, read.own-place)

pub returns : goal.returns
returns c =
    let line = c.timeline_of-line in
    let w = c.widen-k in
    let a = c.args in
    let tables = lent a.all a.distances.now a.times.now a.head.places in
    let read = run-read a.head.places _ a.run.now a.place (accepted (goal.at.returns c).After-widen-k) w.new.numbers w.result w.ensures.counted w.ensures.read in
    timed-told tables a.head a.run.now a.place (lists a.hours.now a.loads.now a.numbers.now a.figures.now) (accepted (goal.at.returns c).After-widen-k) line.result
    (subst (λ (calls : List ℕ). Times tables (space_of a.head.capacity) (limits_of a.head.limits) a.place calls line.result) read.all line.ensures)
    _ c.write_line.ensures c.told_of.result c.told_of.ensures
