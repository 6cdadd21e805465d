-- `alike::text_alike` meets its contract. Assumes nothing.
use Rattle.test_runs.specs.Runs.{given_in}
use Rattle.test_runs.proofs.Along.{joined}
use Rattle.test_lists.proofs.Asked.{whole-alike}
use Rattle.test_lists.proofs.alike.text_alike.Goals as goal

pub returns : goal.returns
returns c =
    let a = c.args in
    let G = given_in a.held a.distances.now a.times.now in
    whole-alike G a.tour.now a.calls.now a.ends.now a.recorded.now c.requires.fits.short c.requires.calls_value
    c.cut_text-end.result (joined _ _ _ _ c.runs_text-end.ensures c.cut_text-end.ensures)
