-- `given::write_numbers` meets its contract. Assumes nothing.
-- what is written keeps its length
use mathlib.Core.Path.{◌≡◌}
use lib.ListN.{take}
use Rattle.definitions.specs.Room.{written}
use Rattle.test_lists.proofs.given.write_numbers.Given as goal

abbrev pub invariant-loop-k : goal.invariant-loop-k
invariant-loop-k l = l.numbers ≡ written (take l.k l.bytes) l.initial.numbers
