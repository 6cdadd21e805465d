-- `alike::calls_alike` meets its contract. Assumes nothing.
use Prim.Native.Nat.{ℕ}
use mathlib.Core.Path.{◌≡◌, sym, ◌∙◌}
use mathlib.Core.Bool.{true}
use mathlib.Core.List.{List}
use Rattle.definitions.specs.Reader.{read}
use Rattle.test_lists.specs.Answers.{is_counted, sheet_alike, calls_alike}
use Rattle.test_lists.proofs.Asked.{uncounted, list-few, asked}
use Rattle.test_lists.proofs.alike.calls_alike.Goals as goal
use Rattle.test_lists.proofs.alike.calls_alike.Goals.{Else-not-is_counted}

-- the bytes that were found to begin with a list
abbrev bytes : Else-not-is_counted → List ℕ
bytes x = x.args.rest.now

begin : (x : Else-not-is_counted) → is_counted (bytes x) ≡ true
begin x = sym x.is_counted.ensures ∙ x.if-not-is_counted.false

pub returns-then-not-is_counted : goal.returns-then-not-is_counted
unfolding calls_alike
returns-then-not-is_counted c = uncounted c.args.rest.now _ (sym c.is_counted.ensures ∙ c.if-not-is_counted.true)

pub sheet_alike-requires : goal.sheet_alike-requires
sheet_alike-requires c =
    let x = (goal.at.sheet_alike-requires c).Else-not-is_counted in
    let e = c in
    let few = list-few (bytes x) (begin x) e.list_end-end.result e.list_end-end.ensures in
    let p = x.requires in
    record { few-calls = few; few-ends = p.0; short = p.1 }

pub returns : goal.returns
unfolding calls_alike
returns c =
    let x = (goal.at.returns c).Else-not-is_counted in
    let e = c in
    let a = x.args in
    asked (bytes x) (begin x) e.list_end-end.result e.list_end-end.ensures (λ (list rest : List ℕ). sheet_alike (read rest) list a.ends.now a.recorded.now)
    c.sheet_alike.result c.sheet_alike.ensures
