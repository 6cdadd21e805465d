-- `text::told_text` meets its contract. Assumes nothing.
use native.Mathlib.Omega.{arith}
use mathlib.Core.Path.{sym, ap, subst, ◌∙◌}
use Prim.Native.Nat.{◌+◌}
use lib.ListN.{length, take, length-take}
use lib.Seq.{length-take-le}
use Rattle.sheet_read.specs.Summary.{held_counts}
use Rattle.sheet_loaded.proofs.Reading.{is-accepted}
use Rattle.texts.specs.CuttingText.{runs, bad_at, expected}
use Rattle.texts.proofs.ReadRuns.{read-ends}
use Rattle.cutting_text.specs.Modes.{mode_of}
use Rattle.cutting_text.specs.TextSoFar.{read_of, Few}
use Rattle.cutting_text.specs.declared.read.CuttingRead.{CuttingRead}
use Rattle.mark_lines.proofs.Shown.{put_as}
use Rattle.times_text.proofs.Said.{told_is}
use Rattle.times_text.proofs.text.told_text.Goals as goal

pub slice_bounds-calls-end : goal.slice_bounds-calls-end
slice_bounds-calls-end c =
    let n = c in
    let read-cutting = n in
    let past-start = read-cutting in
    let start = past-start in
    let x = read-cutting.read_cutting in
    let most = length start.args.cutting.now + 1 in
    let few = subst (Few most most) c.in-Runs.is x.ensures.few in
    omega (arith, few.0, start.requires.in_bounds.1)

pub slice_bounds-byte_text-end : goal.slice_bounds-byte_text-end
slice_bounds-byte_text-end c =
    let n = c in
    let read-cutting = n in
    let past-start = read-cutting in
    let start = past-start in
    let x = read-cutting.read_cutting in
    let most = length start.args.cutting.now + 1 in
    let few = subst (Few most most) c.in-Runs.is x.ensures.few in
    sym (length-take-le c.in-Runs.n x.new.calls (omega (arith, few.0, start.requires.in_bounds.1)))

pub slice_bounds-ends-end : goal.slice_bounds-ends-end
slice_bounds-ends-end c =
    let n = c in
    let read-cutting = n in
    let past-start = read-cutting in
    let start = past-start in
    let x = read-cutting.read_cutting in
    let most = length start.args.cutting.now + 1 in
    let few = subst (Few most most) c.in-Runs.is x.ensures.few in
    omega (arith, few.1, start.requires.in_bounds.1)

pub slice_bounds-byte_text-end-in-Runs : goal.slice_bounds-byte_text-end-in-Runs
slice_bounds-byte_text-end-in-Runs c =
    let n = c in
    let read-cutting = n in
    let past-start = read-cutting in
    let start = past-start in
    let x = read-cutting.read_cutting in
    let most = length start.args.cutting.now + 1 in
    let few = subst (Few most most) c.in-Runs.is x.ensures.few in
    sym (length-take-le c.in-Runs.runs x.new.ends (omega (arith, few.1, start.requires.in_bounds.1)))

pub slice_bounds-places-end : goal.slice_bounds-places-end
slice_bounds-places-end c =
    let n = c in
    let read-cutting = n in
    let past-start = read-cutting in
    let start = past-start in
    let x = read-cutting.read_cutting in
    let most = length start.args.cutting.now + 1 in
    let few = subst (Few most most) c.in-Runs.is x.ensures.few in
    omega (arith, few.1, start.requires.in_bounds.1)

pub slice_bounds-byte_text-end-in-Runs-2 : goal.slice_bounds-byte_text-end-in-Runs-2
slice_bounds-byte_text-end-in-Runs-2 c =
    let n = c in
    let read-cutting = n in
    let past-start = read-cutting in
    let start = past-start in
    let x = read-cutting.read_cutting in
    let most = length start.args.cutting.now + 1 in
    let few = subst (Few most most) c.in-Runs.is x.ensures.few in
    sym (length-take-le c.in-Runs.runs x.new.places (omega (arith, few.1, start.requires.in_bounds.1)))

pub byte_text-requires : goal.byte_text-requires
byte_text-requires c =
    let n = c in
    let read-cutting = n in
    let past-start = read-cutting in
    let start = past-start in
    let x = read-cutting.read_cutting in
    let most = length start.args.cutting.now + 1 in
    let few = subst (Few most most) c.in-Runs.is x.ensures.few in
    let calls = x.new.calls in
    let ends = x.new.ends in
    let places = x.new.places in
    let said = sym x.ensures.said ∙ ap (λ (t : CuttingRead). read_of t calls ends places) c.in-Runs.is in
    let m = c.in-Runs.runs in
    let inside = read-ends start.args.cutting.now (take c.in-Runs.n calls) (take m ends) (take m places) said in
    record { in_bounds = start.requires.in_bounds.0; found = start.requires.found; ends_in = (inside, omega (arith, length-take m ends, few.1, start.requires.in_bounds.1)) }

pub returns-in-Runs : goal.returns-in-Runs
returns-in-Runs c =
    let byte-text = c in
    let past-n = byte-text in
    let n = past-n in
    let read-cutting = n in
    let past-start = read-cutting in
    let start = past-start in
    let q = is-accepted start.args.bytes.now (held_counts start.args.found) start.requires.found in
    let x = read-cutting.read_cutting in
    let calls = x.new.calls in
    let ends = x.new.ends in
    let places = x.new.places in
    let said = sym x.ensures.said ∙ ap (λ (t : CuttingRead). read_of t calls ends places) c.in-Runs.is in
    let t = byte-text.byte_text.ensures in
    let given = runs (take c.in-Runs.n calls) (take c.in-Runs.runs ends) (take c.in-Runs.runs places) in
    record { text = put_as (told_is start.args.bytes.now start.args.cutting.now q.0 q.1 q.2 given said) (t.text q.0 q.1 q.2); short = t.short }

pub returns-in-Bad : goal.returns-in-Bad
returns-in-Bad c =
    let bad-line = c in
    let line = bad-line in
    let read-cutting = line in
    let past-start = read-cutting in
    let start = past-start in
    let q = is-accepted start.args.bytes.now (held_counts start.args.found) start.requires.found in
    let x = read-cutting.read_cutting in
    let calls = x.new.calls in
    let ends = x.new.ends in
    let places = x.new.places in
    let said = sym x.ensures.said ∙ ap (λ (t : CuttingRead). read_of t calls ends places) c.in-Bad.is in
    let t = bad-line.bad_line.ensures in
    let bad = bad_at c.in-Bad.line c.in-Bad.column (expected (mode_of c.in-Bad.m)) in
    record { text = put_as (told_is start.args.bytes.now start.args.cutting.now q.0 q.1 q.2 bad said) t.text; short = omega (arith, start.requires.in_bounds.0, t.short) }
