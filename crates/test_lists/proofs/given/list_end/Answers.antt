-- `given::list_end` meets its contract. Assumes nothing.
use native.Mathlib.Omega.{arith}
use Prim.Native.Nat.{◌<◌}
use lib.ListN.{length, get_or}
use Rattle.test_lists.proofs.Asked.{is-there}
use Rattle.test_lists.proofs.given.list_end.Goals as goal
use Rattle.test_lists.proofs.given.list_end.Goals.{Start}

-- the list ends inside the bytes
ends : (s : Start) → get_or s.args.bytes.now 0 0 < length s.args.bytes.now
ends s = is-there s.args.bytes.now s.requires

pub bounds-bytes-0 : goal.bounds-bytes-0
bounds-bytes-0 c = omega (arith, ends (goal.at.bounds-bytes-0 c).Start)

pub returns : goal.returns
returns c = record { is = omega (arith, c.number_of.ensures); inside = omega (arith, ends (goal.at.returns c).Start, c.number_of.ensures) }
