-- `two_opt::improve_in_place` meets its contract. Assumes nothing.
-- ---- the places on the way: from the rules, and from the records listed
use mathlib.Core.Path.{ap₂, ◌∙◌}
use Rattle.evaluation.specs.Records.{Tables}
use Rattle.improve_base.proofs.ListedRecords.{listed-records}
use Rattle.two_opt.specs.Rules.{RulesF}
use Rattle.two_opt.specs.TwoOpt.{most_passes, passes_f, improved_f}
use Rattle.two_opt.proofs.two_opt.improve_in_place.Goals as goal

pub returns : goal.returns
unfolding improved_f
returns c =
    let improved = c in
    let worked = improved in
    let told = worked in
    let s = told in
    let a = s.args in
    let same = listed-records a.customers a.distances.now a.times.now a.size _ worked.list_records.ensures.1 in
    improved.passes.ensures ∙ ap₂ (λ (u : Tables) (r : RulesF). passes_f u r most_passes a.current.now) same told.rules_of-rules.ensures
