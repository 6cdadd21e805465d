-- `rest::given_rest` meets its contract. Assumes nothing.
use mathlib.Core.Path.{◌≡◌, sym, ap, ◌∙◌}
use lib.ListN.{length}
use lib.Ieee.{Float}
use Rattle.models.specs.Records.{rest_of}
use Rattle.evaluation.specs.Records.{lent}
use Rattle.visits.specs.Visiting.{RestF, start_trip, visits_f}
use Rattle.timeline.specs.Timing.{given_start_f, rest_with_f, given_rest_f}
use Rattle.timeline.proofs.Assembling.{start_first}
use borrow.Author.Rules.{rules}
use Rattle.timeline.proofs.rest.given_rest.Goals as goal

pub returns : goal.returns
unfolding given_rest_f
returns c =
    let began = c in
    let walked = began in
    let without = walked in
    let S = without in
    let a = S.args in
    let tables = lent a.customers a.distances.now a.times.now a.size in
    let first = start_first (rest_of a.rest) a.place (length a.route.now) _ S.requires.route_len_bound.1 in
    let visits = walked.walk-calls.ensures.visits-are ∙ ap (λ (r : RestF). visits_f tables r 1 start_trip a.route.now) without.rest_with-without.ensures in
    c.rest_with.ensures
    ∙ ap (rest_with_f (rest_of a.rest) a.place) (began.given_start-start.ensures ∙ first ∙ ap (given_start_f (rest_of a.rest) a.place) visits)
