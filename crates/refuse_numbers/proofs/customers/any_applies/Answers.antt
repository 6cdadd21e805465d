use Rattle.std.proofs.Common.{take, sym, ◌∙◌, rules, tests}
use Rattle.std.proofs.lemmas.Iterator.{YieldsList-from_slice, YieldsList-from_take}
use Rattle.std.proofs.lemmas.Iterator.Consumers.{YieldsList-at}
use Rattle.std.proofs.lemmas.Iterator.Search.{any_from_yields_List}
use Rattle.models.specs.declared.customer.Customer.{Customer}
use Rattle.models.specs.Records.{customer_of}
use Rattle.refuse_numbers.specs.Customers.{test_of}
use Rattle.refuse_numbers.proofs.Searching.{same_any, any-image}
use Rattle.refuse_numbers.proofs.customers.any_applies.Goals as goal

pub returns : goal.returns
returns c =
    let applies = λ (x : Customer). test_of c.args.test (customer_of x) in
    let road = YieldsList-from_take c.args.places (YieldsList-at c.take.ensures.source (YieldsList-from_slice c.args.customers c.iter.ensures.rest)) c.take.ensures.count in
    any_from_yields_List applies c.any.new.self _ _ c.any.ensures.ran road (λ x b q k. search (rules, tests)) ∙ same_any applies (take c.args.places c.args.customers)
    ∙ sym (any-image customer_of (test_of c.args.test) c.args.places c.args.customers)
