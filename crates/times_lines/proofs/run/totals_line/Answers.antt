-- `run::totals_line` meets its contract. Assumes nothing.
use native.Mathlib.Omega.{arith}
use borrow.Author.Tests.{eq-eqb, ne_eqb}
use Rattle.listing_lines.proofs.Putting.{nothing}
use Rattle.times_lines.specs.Told.{figures_in}
use Rattle.times_lines.proofs.Templates.{put_as, totals-is}
use Rattle.times_lines.proofs.run.totals_line.Goals as goal

pub returns-then-count-eq0 : goal.returns-then-count-eq0
returns-then-count-eq0 c =
    let a = c.args in
    record { text = rw (eq-eqb a.count 0 c.if-count-eq0.true) (nothing a.at a.out.now); short = omega arith }

pub returns : goal.returns
returns c =
    let f = c in
    let pay = f in
    let lateness = pay in
    let distance = lateness in
    let duration = distance in
    let branch = duration in
    let a = branch.args in
    let put = rw (duration.whole_part.ensures, distance.whole_part-2.ensures, lateness.whole_part-3.ensures, pay.whole_part-4.ensures) at f.filled.ensures.text in
    record { text = rw (ne_eqb a.count 0 branch.if-count-eq0.false) (put_as (totals-is a.n (figures_in a.distance a.duration a.lateness a.pay 0)) put); short = omega arith }
