-- `alike::runs_alike` meets its contract. Assumes nothing.
use Prim.Native.Nat.{ℕ}
use mathlib.Core.Path.{◌≡◌, sym, ◌∙◌}
use mathlib.Core.Bool.{true}
use mathlib.Core.List.{List}
use Rattle.test_lists.specs.Answers.{is_counted, calls_alike, runs_alike}
use Rattle.test_lists.proofs.Asked.{uncounted, list-few, asked}
use Rattle.test_lists.proofs.alike.runs_alike.Goals as goal
use Rattle.test_lists.proofs.alike.runs_alike.Goals.{Else-not-is_counted}

-- the bytes that were found to begin with a list
abbrev bytes : Else-not-is_counted → List ℕ
bytes x = x.args.question.now

begin : (x : Else-not-is_counted) → is_counted (bytes x) ≡ true
begin x = sym x.is_counted.ensures ∙ x.if-not-is_counted.false

pub returns-then-not-is_counted : goal.returns-then-not-is_counted
unfolding runs_alike
returns-then-not-is_counted c = uncounted c.args.question.now _ (sym c.is_counted.ensures ∙ c.if-not-is_counted.true)

pub calls_alike-requires : goal.calls_alike-requires
calls_alike-requires c =
    let x = (goal.at.calls_alike-requires c).Else-not-is_counted in
    let e = c in
    let few = list-few (bytes x) (begin x) e.list_end-end.result e.list_end-end.ensures in
    let p = x.requires in
    (few, p)

pub returns : goal.returns
unfolding runs_alike
returns c =
    let x = (goal.at.returns c).Else-not-is_counted in
    let e = c in
    let a = x.args in
    asked (bytes x) (begin x) e.list_end-end.result e.list_end-end.ensures (λ (list rest : List ℕ). calls_alike list rest a.recorded.now) c.calls_alike.result c.calls_alike.ensures
