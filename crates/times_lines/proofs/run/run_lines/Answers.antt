-- `run::run_lines` meets its contract. Assumes nothing.
use native.Mathlib.Omega.{arith}
use mathlib.Core.Path.{sym, ap}
use mathlib.Core.Bool.{Bool, cond}
use mathlib.Core.List.{[]}
use Rattle.listing_lines.proofs.Putting.{joined-all}
use Rattle.texts.specs.TimesText.{totals_line, run_lines}
use Rattle.times_lines.specs.Told.{figures_in, run_text_f}
use Rattle.times_lines.proofs.Templates.{put_as}
use Rattle.times_lines.proofs.run.run_lines.Goals as goal

pub returns : goal.returns
unfolding run_text_f run_lines totals_line
returns c =
    let v = c in
    let t = v in
    let s = t in
    let d = s in
    let S = d in
    let a = S.args in
    let x = a.run in
    let stops = rw d.duration_of-duration.ensures at s.stop_lines-end.ensures.text in
    let line = totals_line a.n (figures_in x.distance x.duration x.lateness x.lateness_cost 0) in
    let e = rw d.duration_of-duration.ensures at s.stop_lines-end.ensures.driven in
    let totals = put_as (ap (λ (b : Bool). cond b [] line) (sym e)) t.totals_line-end.ensures.text in
    let roomₛ = s.stop_lines-end.ensures.short in
    let roomₜ = t.totals_line-end.ensures.short in
    record { text = joined-all stops totals v.violation_lines.ensures.text (omega arith); short = omega (arith, v.violation_lines.ensures.short) }
