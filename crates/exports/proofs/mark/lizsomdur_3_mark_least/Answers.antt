-- `mark::lizsomdur_3_mark_least` meets its contract. Assumes nothing.
use Rattle.bytes_mark.specs.Mark.{given_runs}
use Rattle.exports.specs.Mark.{mark_outputs}
use Rattle.exports.proofs.Marked.{never-cheaper}
use Rattle.exports.proofs.mark.lizsomdur_3_mark_least.Goals as goal

pub returns : goal.returns
returns c =
    let a = c.args in
    let given = given_runs a.calls.now a.ends.now a.breaks.now in
    let old = mark_outputs a.word.now a.verdict.now a.values.now in
    let m = c.mark_by in
    record { fact = m.ensures; never_cheaper = never-cheaper a.sheet.now given old m.result _ m.ensures }
