-- `text::held_text` meets its contract. Assumes nothing.
use native.Mathlib.Omega.{arith}
use mathlib.Core.Path.{sym, ap, ◌∙◌}
use Rattle.mark_lines.proofs.Shown.{put_as}
use Rattle.mark_text.proofs.InWords.{shown, held-marked}
use Rattle.mark_text.proofs.text.held_text.Goals as goal

pub returns-in-Refused : goal.returns-in-Refused
returns-in-Refused c =
    let runs-refused = c in
    let number = runs-refused in
    let mark = number in
    let past-start = mark in
    let start = past-start in
    let a = start.args in
    let t = runs-refused.runs_refused.ensures in record {
      text = λ s H.
          put_as (ap (shown s a.tour.now a.calls.now) (sym c.in-Refused.is)
          ∙ held-marked s a.tour.now a.head a.customers a.distances.now a.times.now H a.calls.now a.ends.now a.places.now
          mark.mark.result mark.mark.ensures)
          t.text;
      short = omega (arith, start.requires.in_bounds, t.short);
    }

pub returns-in-Verdict : goal.returns-in-Verdict
returns-in-Verdict c =
    let verdict-held = c in
    let v = verdict-held in
    let mark = v in
    let past-start = mark in
    let start = past-start in
    let a = start.args in
    let t = verdict-held.verdict_held.ensures in record {
      text = λ s H.
          put_as (ap (shown s a.tour.now a.calls.now) (sym c.in-Verdict.is)
          ∙ held-marked s a.tour.now a.head a.customers a.distances.now a.times.now H a.calls.now a.ends.now a.places.now
          mark.mark.result mark.mark.ensures)
          (t.text s H);
      short = t.short;
    }
