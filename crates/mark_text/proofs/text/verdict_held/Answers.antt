-- `text::verdict_held` meets its contract. Assumes nothing.
use native.Mathlib.Omega.{arith}
use Rattle.sheet_plan.proofs.CutHeld.{served-inside, served-counted, dropped-inside, dropped-counted}
use Rattle.mark_lines.proofs.Shown.{put_as}
use Rattle.mark_text.proofs.Told.{dropped-few, cut-text}
use Rattle.mark_text.proofs.text.verdict_held.Goals as goal

pub slice_bounds-served-end : goal.slice_bounds-served-end
slice_bounds-served-end c =
    let cut-held = c in
    let past-start = cut-held in
    let start = past-start in
    served-inside (cut-held.cut_held-cut.ensures start.requires.held.0 start.requires.held.1)

pub slice_bounds-verdict_text-end : goal.slice_bounds-verdict_text-end
slice_bounds-verdict_text-end c =
    let cut-held = c in
    let past-start = cut-held in
    let start = past-start in
    served-counted (cut-held.cut_held-cut.ensures start.requires.held.0 start.requires.held.1)

pub slice_bounds-dropped-end : goal.slice_bounds-dropped-end
slice_bounds-dropped-end c =
    let cut-held = c in
    let past-start = cut-held in
    let start = past-start in
    dropped-inside (cut-held.cut_held-cut.ensures start.requires.held.0 start.requires.held.1)

pub slice_bounds-verdict_text-end-2 : goal.slice_bounds-verdict_text-end-2
slice_bounds-verdict_text-end-2 c =
    let past-cut-held = c in
    let cut-held = past-cut-held in
    let past-start = cut-held in
    let start = past-start in
    dropped-counted (cut-held.cut_held-cut.ensures start.requires.held.0 start.requires.held.1)

pub verdict_text-requires : goal.verdict_text-requires
verdict_text-requires c =
    let past-cut-held = c in
    let cut-held = past-cut-held in
    let past-start = cut-held in
    let start = past-start in
    let s = start.requires.held.0 in
    let H = start.requires.held.1 in
    let few = dropped-few s start.args.tour.now (cut-held.cut_held-cut.ensures s H) H.calls in
    omega (arith, start.requires.in_bounds, few)

pub returns : goal.returns
returns c =
    let verdict-text = c in
    let past-cut-held = verdict-text in
    let cut-held = past-cut-held in
    let past-start = cut-held in
    let start = past-start in
    let a = start.args in
    let t = verdict-text.verdict_text.ensures in
    let held = start.requires.held in
    let few = dropped-few held.0 a.tour.now (cut-held.cut_held-cut.ensures held.0 held.1) held.1.calls in
    record { text = λ s H. put_as (cut-text s a.tour.now (cut-held.cut_held-cut.ensures s H) a.calls.now a.v) t.text; short = omega (arith, start.requires.in_bounds, few, t.short) }
