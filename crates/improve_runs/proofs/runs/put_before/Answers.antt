-- `runs::put_before` meets its contract. Assumes nothing.
use Rattle.improve_runs.proofs.Shifting.{put-front}
use Rattle.improve_runs.proofs.runs.put_before.Goals as goal

pub returns : goal.returns
returns c =
    let a = c.args in
    let r = c.requires in
    rw c.copy_within.ensures.after (put-front a.list.now a.n a.at a.c r.0 r.1 r.2)
