-- `leg::looked_up` meets its contract. Assumes nothing.
-- the lookup finds a length
use mathlib.Core.Path.{◌≡◌, sym, ap, ◌∙◌}
use Rattle.std.specs.Prelude.{None, Some}
use Rattle.basics.proofs.OptionLaws.{same, clash}
use Rattle.distance.specs.Lookup.{number_f}
use Rattle.improve_base.proofs.OpenLegs.{lookup-open}
use borrow.Author.Rules.{rules}
use Rattle.improve_base.proofs.leg.looked_up.Goals as goal
use Rattle.improve_base.proofs.leg.looked_up.Goals.{After-lookup}

found : (c : After-lookup) →
    let a = c.args in
    c.lookup.result ≡ Some (number_f a.table.now a.size a.from a.to)
found c =
    let s = c in
    c.lookup.ensures ∙ lookup-open s.args.table.now s.args.size s.args.from s.args.to s.requires

pub returns-in-Some : goal.returns-in-Some
returns-in-Some c =
    let known = c in
    let e : known.lookup.result ≡ Some known.in-Some.length = search rules in
    same (sym (e) ∙ found (goal.at.returns-in-Some c).After-lookup)

pub returns-in-None : goal.returns-in-None
returns-in-None c =
    let told = c in
    let e : told.lookup.result ≡ None = search rules in
    clash (sym (e) ∙ found (goal.at.returns-in-None c).After-lookup)
