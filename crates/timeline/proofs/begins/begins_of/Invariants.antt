-- `begins::begins_of` meets its contract. The loop's invariant: what is written and what is left make the whole. Assumes nothing.
use mathlib.Core.List.{map}
use Rattle.models.specs.Records.{customer_of}
use Rattle.visits.specs.Visiting.{rest_at_of}
use Rattle.timeline.proofs.Beginning.{Underway}
use Rattle.timeline.proofs.begins.begins_of.Given as goal

abbrev pub invariant-loop-i : goal.invariant-loop-i
invariant-loop-i l = Underway (map customer_of l.customers) (rest_at_of l.rest) l.visit-items l.begins l.i
