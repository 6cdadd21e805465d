-- `runs::drop_empty` meets its contract. Assumes nothing.
use Prim.Native.Nat.{ℕ}
use mathlib.Core.Path.{sym, subst}
use mathlib.Core.List.{List}
use Rattle.improve_runs.specs.RunLists.{DropsEmpty}
use Rattle.improve_runs.proofs.Fronts.{pasted-whole}
use borrow.Author.Rules.{rules}
use Rattle.improve_runs.proofs.runs.drop_empty.Goals as goal

pub returns : goal.returns
returns c =
    let pasted = c in
    let kept = pasted in
    let s = kept in
    let same = pasted-whole _ _ (search rules) pasted.paste.ensures in
    subst (λ (l : List ℕ). DropsEmpty s.args.ends.now s.args.count l kept.non_empty-n.result) (sym same) kept.non_empty-n.ensures
