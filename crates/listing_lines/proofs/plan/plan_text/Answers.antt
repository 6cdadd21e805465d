-- `plan::plan_text` meets its contract. Assumes nothing.
use Rattle.std.proofs.Common.{arith}
use Rattle.listing_lines.specs.Plan.{result_text}
use Rattle.listing_lines.proofs.Putting.{joined-all}
use Rattle.listing_lines.proofs.plan.plan_text.Goals as goal

pub returns : goal.returns
unfolding result_text
returns c =
    let t = c in
    let cost = t in
    let far = cost in
    let d = far in
    let r = d in
    let known = r in
    let room = known.requires.ends_in_bounds.1 in
    let runs = r.run_lines-end.ensures.short in
    let drops = d.drop_lines-end.ensures.short in
    let total = t.total_line.ensures.short in
    let last = rw (far.whole_part.ensures, cost.whole_part-2.ensures) at t.total_line.ensures.text in
    record { text = joined-all r.run_lines-end.ensures.text d.drop_lines-end.ensures.text last (omega arith); short = omega arith }
