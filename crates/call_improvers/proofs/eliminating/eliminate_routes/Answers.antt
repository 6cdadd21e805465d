-- `eliminating::eliminate_routes` meets its contract. Assumes nothing.
use Prim.Native.Nat.{ℕ}
use mathlib.Core.Path.{◌≡◌}
use mathlib.Core.List.{List, [], ◌∷◌}
use lib.ListN.{length, take}
use lib.Ieee.{Float}
use Rattle.definitions.specs.Lent.{eliminating}
use Rattle.models.specs.declared.customer.Customer.{Customer}
use Rattle.models.specs.declared.head.Head.{Head}
use Rattle.improve_base.specs.Search.{search_of}
use Rattle.route_elimination.specs.Elimination.{Lists, lists}
use Rattle.call_improvers.proofs.ImproverAnswers.{Asked, improver-read}
use Rattle.call_improvers.proofs.EliminationAnswers.{ends_read, elimination-room, refused-elimination, given-elimination}
use Rattle.call_improvers.proofs.eliminating.eliminate_routes.Goals as goal
use Rattle.call_improvers.proofs.eliminating.eliminate_routes.Goals.{After-widen-runs}

abbrev asked : Head → List Customer → ℕ → List Float → List Float → List ℕ → Asked
asked head array count distances times calls = record { head = head; array = array; count = count; distances = distances; times = times; calls = calls }

-- behind the two lists that are read
module _ (k : After-widen-runs) where
  abbrev Q : Asked
  Q = let a = k.args in asked a.head a.all a.n a.distances.now a.times.now a.calls.now

  abbrev out : Lists
  out = lists k.args.left_calls.now k.args.left_ends.now

  abbrev full : length k.args.all ≡ 64
  full = k.well_formed.1.0.1.0.1

  -- the lists as they stand in the arrays
  abbrev calls-held : List ℕ
  calls-held = take k.widen-many.result k.widen-many.new.numbers

  abbrev ends_held : List ℕ
  ends_held = take k.widen-runs.result k.widen-runs.new.numbers

  calls_are : calls-held ≡ k.args.calls.now
  calls_are =
      let number = k.refuse_eliminating-number in
      let w = k.widen-many in
      improver-read eliminating Q k.args.ends.now (length out.calls ∷ length out.ends ∷ []) number.result number.ensures.refused k.if-number-ne0.false full
      w.new.numbers w.result w.ensures.counted w.ensures.read

  ends-are : ends_held ≡ k.args.ends.now
  ends-are =
      let number = k.refuse_eliminating-number in
      let w = k.widen-runs in
      ends_read Q k.args.ends.now out number.result number.ensures.refused k.if-number-ne0.false full w.new.numbers w.result w.ensures.counted w.ensures.read

pub returns-then-number-ne0 : goal.returns-then-number-ne0
returns-then-number-ne0 c =
    let a = c.args in
    let number = c.refuse_eliminating-number in
    refused-elimination (asked a.head a.all a.n a.distances.now a.times.now a.calls.now) a.ends.now (lists a.left_calls.now a.left_ends.now)
    number.result number.ensures.refused c.if-number-ne0.true

pub eliminate_routes-left-requires : goal.eliminate_routes-left-requires
eliminate_routes-left-requires c =
    let k = (goal.at.eliminate_routes-left-requires c).After-widen-runs in
    let number = c.refuse_eliminating-number in
    let room =
    elimination-room (Q k) c.args.ends.now (out k) number.result number.ensures.refused c.if-number-ne0.false (full k) (calls-held k) (ends_held k) (calls_are k)
    (ends-are k) number.ensures.image in
    record { calls_value = room.0; calls_in_bounds = room.1.0; all_open = room.1.1 }

pub returns : goal.returns
returns c =
    let k = (goal.at.returns c).After-widen-runs in
    let number = c.refuse_eliminating-number in
    given-elimination (Q k) c.args.ends.now (out k) number.result number.ensures.refused c.if-number-ne0.false (full k) (calls-held k) (ends_held k) (calls_are k)
    (ends-are k) number.ensures.image (search_of c.search_of-search.result) c.search_of-search.ensures {kept = lists _ _} {new = lists _ _}
    c.eliminate_routes-left.ensures c.narrow.ensures c.narrow-2.ensures
