use Rattle.std.proofs.Common.{◌∙◌, rules, tests}
use Rattle.std.proofs.lemmas.Iterator.{YieldsList-from_slice}
use Rattle.std.proofs.lemmas.Iterator.Search.{any_from_yields_List}
use Rattle.definitions.specs.Domain.{is_leg}
use Rattle.definitions.specs.Refusals.{unfit}
use Rattle.whole.specs.Value.{value}
use Rattle.refuse_numbers.proofs.Searching.{same_any}
use Rattle.refuse_numbers.proofs.tables.bad_numbers.Goals as goal

pub returns : goal.returns
returns c =
    let road = YieldsList-from_slice c.args.numbers.now c.iter.ensures.rest in
    any_from_yields_List (unfit value is_leg) c.any.new.self _ _ c.any.ensures.ran road (λ x b q k. search (rules, tests)) ∙ same_any (unfit value is_leg) c.args.numbers.now
