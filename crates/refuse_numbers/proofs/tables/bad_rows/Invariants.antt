-- What is left of both tables says what all k rows say. Assumes nothing.
use Rattle.definitions.specs.Domain.{is_leg}
use Rattle.definitions.specs.Refusals.{unfit}
use Rattle.whole.specs.Value.{value}
use Rattle.refuse_numbers.proofs.Rows.{Left}
use Rattle.refuse_numbers.proofs.tables.bad_rows.Given as goal

abbrev pub invariant-loop : goal.invariant-loop
invariant-loop l = Left (unfit value is_leg) l.size l.k l.distances l.times l.d l.t l.counter
