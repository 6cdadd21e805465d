-- `labels::put` meets its contract, by whether there is a label. Assumes nothing.
use mathlib.Core.Path.{◌≡◌, ap}
use Rattle.std.specs.Prelude.{Some}
use Rattle.cut_labels.proofs.LabelLaws.{put_one}
use borrow.Author.Rules.{rules}
use Rattle.cut_labels.proofs.labels.put.Goals as goal

pub returns : goal.returns
returns c =
    let l = c in
    let s = l in
    let a = s.args in
    let e : a.label ≡ Some l.in-Some.l = search rules in
    put_one _ s.requires.0 a.n l.in-Some.l s.requires.1 _ (e)
