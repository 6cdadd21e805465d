use Rattle.std.proofs.Common.{ℕ, ◌∙◌, not, rules, tests}
use Rattle.std.proofs.lemmas.Iterator.{YieldsList-from_slice}
use Rattle.std.proofs.lemmas.Iterator.Search.{any_from_yields_List}
use Rattle.definitions.specs.Domain.{is_call}
use Rattle.refuse_numbers.proofs.Searching.{same_any}
use Rattle.refuse_numbers.proofs.calls.no_customer.Goals as goal

pub returns : goal.returns
returns c =
    let fails = λ (n : ℕ). not (is_call c.args.places n) in
    let road = YieldsList-from_slice c.args.tour.now c.iter.ensures.rest in
    any_from_yields_List fails c.any.new.self _ _ c.any.ensures.ran road (λ x b q k. search (rules, tests)) ∙ same_any fails c.args.tour.now
