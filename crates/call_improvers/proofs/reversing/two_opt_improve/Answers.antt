-- `reversing::two_opt_improve` meets its contract. Assumes nothing.
use Prim.Native.Nat.{ℕ}
use mathlib.Core.Path.{◌≡◌}
use mathlib.Core.List.{List, [], ◌∷◌}
use lib.ListN.{length, take}
use lib.Ieee.{Float}
use Rattle.definitions.specs.Lent.{reversing}
use Rattle.models.specs.declared.customer.Customer.{Customer}
use Rattle.models.specs.declared.head.Head.{Head}
use Rattle.improve_base.specs.Search.{search_of}
use Rattle.call_improvers.proofs.ImproverAnswers.{Asked, improver-read}
use Rattle.call_improvers.proofs.ReversalAnswers.{reversal-open, refused-reversal, given-reversal}
use Rattle.call_improvers.proofs.reversing.two_opt_improve.Goals as goal
use Rattle.call_improvers.proofs.reversing.two_opt_improve.Goals.{After-widen-k}

abbrev asked : Head → List Customer → ℕ → List Float → List Float → List ℕ → Asked
asked head array count distances times calls = record { head = head; array = array; count = count; distances = distances; times = times; calls = calls }

-- behind the run that is read: the run as it stands in the array
abbrev run-held : After-widen-k → List ℕ
run-held k = take k.widen-k.result k.widen-k.new.numbers

run_is : (k : After-widen-k) → run-held k ≡ k.args.run.now
run_is k =
    let a = k.args in
    let number = k.refuse_reversing-number in
    let w = k.widen-k in
    improver-read reversing (asked a.head a.all a.n a.distances.now a.times.now a.run.now) [] (length a.improved.now ∷ []) number.result number.ensures.refused
    k.if-number-ne0.false k.well_formed.1.0.1.0.1 w.new.numbers w.result w.ensures.counted w.ensures.read

pub returns-then-number-ne0 : goal.returns-then-number-ne0
returns-then-number-ne0 c =
    let a = c.args in
    let number = c.refuse_reversing-number in
    refused-reversal (asked a.head a.all a.n a.distances.now a.times.now a.run.now) a.improved.now number.result number.ensures.refused c.if-number-ne0.true

pub two_opt_improve-distance-requires-clause-all_open : goal.two_opt_improve-distance-requires-clause-all_open
two_opt_improve-distance-requires-clause-all_open c =
    let a = c.args in
    let number = c.refuse_reversing-number in
    reversal-open (asked a.head a.all a.n a.distances.now a.times.now a.run.now) a.improved.now number.result number.ensures.refused number.ensures.image
    c.if-number-ne0.false c.well_formed.1.0.1.0.1

pub returns : goal.returns
returns c =
    let a = c.args in
    let k = (goal.at.returns c).After-widen-k in
    let number = c.refuse_reversing-number in
    let done = c.two_opt_improve-distance in
    given-reversal (asked a.head a.all a.n a.distances.now a.times.now a.run.now) a.improved.now number.result number.ensures.refused number.ensures.image
    c.if-number-ne0.false (search_of c.search_of-search.result) c.search_of-search.ensures (run-held k) (run_is k) done.result done.ensures.result_value
    done.ensures.current_after c.narrow.ensures
