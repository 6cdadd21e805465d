use Rattle.std.proofs.Common.{◌∙◌, rules, tests}
use Rattle.std.proofs.lemmas.Iterator.{YieldsList-from_slice}
use Rattle.std.proofs.lemmas.Iterator.Search.{any_from_yields_List}
use Rattle.distance.specs.Lookup.{is_closed_f}
use Rattle.refuse_numbers.proofs.Searching.{same_any}
use Rattle.refuse_numbers.proofs.closures.any_closed.Goals as goal

pub returns : goal.returns
returns c =
    let road = YieldsList-from_slice c.args.distances.now c.iter.ensures.rest in
    any_from_yields_List is_closed_f c.any.new.self _ _ c.any.ensures.ran road (λ x b q k. search (rules, tests)) ∙ same_any is_closed_f c.args.distances.now
