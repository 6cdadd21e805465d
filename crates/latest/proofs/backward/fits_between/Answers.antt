-- `backward::fits_between` meets its contract. Assumes nothing.
use Rattle.latest.specs.Times.{fits_f}
use Rattle.latest.proofs.backward.fits_between.Goals as goal

pub returns : goal.returns
unfolding fits_f
returns c =
    let back = c in
    let served = back in
    let hours = served in
    let there = hours in
    let next = there in
    rw (← next.place_before-prev.ensures, ← next.call_at-next.ensures, ← there.open_time-there.ensures, ← hours.hours_at-hours.ensures, ← served.serve-with_c.ensures, ← back.open_time.ensures)
    c.in_time.ensures
