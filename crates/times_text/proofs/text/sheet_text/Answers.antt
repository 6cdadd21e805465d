-- `text::sheet_text` meets its contract. Assumes nothing.
use mathlib.Core.Path.{ap}
use mathlib.Core.List.{List}
use Prim.Native.Nat.{ℕ}
use Rattle.sheet_read.specs.Summary.{held_counts}
use Rattle.sheet_loaded.proofs.Reading.{is-accepted}
use Rattle.sheet_loaded.proofs.Loading.{far-inside, far-counted, long-inside, long-counted, calls-inside, calls-counted, calls_are, held}
use Rattle.texts.specs.CuttingText.{runs}
use Rattle.texts.specs.TimesText.{runs_times}
use Rattle.mark_lines.proofs.Shown.{put_as}
use Rattle.times_text.proofs.text.sheet_text.Goals as goal

pub slice_bounds-tour-end : goal.slice_bounds-tour-end
slice_bounds-tour-end c =
    let load = c in
    let past-start = load in
    let start = past-start in
    let q = is-accepted start.args.bytes.now (held_counts start.args.found) start.requires.found in
    calls-inside (load.load-l.ensures q.0 q.1 q.2)

pub slice_bounds-held_text-end : goal.slice_bounds-held_text-end
slice_bounds-held_text-end c =
    let load = c in
    let past-start = load in
    let start = past-start in
    let q = is-accepted start.args.bytes.now (held_counts start.args.found) start.requires.found in
    calls-counted (load.load-l.ensures q.0 q.1 q.2)

pub slice_bounds-distances-end : goal.slice_bounds-distances-end
slice_bounds-distances-end c =
    let load = c in
    let past-start = load in
    let start = past-start in
    let q = is-accepted start.args.bytes.now (held_counts start.args.found) start.requires.found in
    far-inside (load.load-l.ensures q.0 q.1 q.2)

pub slice_bounds-held_text-end-2 : goal.slice_bounds-held_text-end-2
slice_bounds-held_text-end-2 c =
    let load = c in
    let past-start = load in
    let start = past-start in
    let q = is-accepted start.args.bytes.now (held_counts start.args.found) start.requires.found in
    far-counted (load.load-l.ensures q.0 q.1 q.2)

pub slice_bounds-times-end : goal.slice_bounds-times-end
slice_bounds-times-end c =
    let load = c in
    let past-start = load in
    let start = past-start in
    let q = is-accepted start.args.bytes.now (held_counts start.args.found) start.requires.found in
    long-inside (load.load-l.ensures q.0 q.1 q.2)

pub slice_bounds-held_text-end-3 : goal.slice_bounds-held_text-end-3
slice_bounds-held_text-end-3 c =
    let load = c in
    let past-start = load in
    let start = past-start in
    let q = is-accepted start.args.bytes.now (held_counts start.args.found) start.requires.found in
    long-counted (load.load-l.ensures q.0 q.1 q.2)

pub held_text-requires : goal.held_text-requires
held_text-requires c =
    let load = c in
    let past-start = load in
    let start = past-start in
    let q = is-accepted start.args.bytes.now (held_counts start.args.found) start.requires.found in
    record { in_bounds = start.requires.in_bounds; held = held (load.load-l.ensures q.0 q.1 q.2) }

pub returns : goal.returns
returns c =
    let held-text = c in
    let past-load = held-text in
    let load = past-load in
    let past-start = load in
    let start = past-start in
    let a = start.args in
    let t = held-text.held_text.ensures in
    let given = runs a.calls.now a.ends.now a.places.now in record {
      text = λ s tour e.
          let H = load.load-l.ensures s tour e in
          put_as (ap (λ (visited : List ℕ). runs_times s visited given) (calls_are H)) (t.text s H.in_memory);
      short = t.short;
    }
