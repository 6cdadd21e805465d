-- The first k numbers stand at the front, and the rest is as it was.
use Rattle.std.proofs.Common.{◌≡◌, ◌++◌, take, drop, map}
use Rattle.definitions.specs.Bytes.{byte_of}
use Rattle.byte_lists.proofs.narrow.Given as goal

abbrev pub invariant-loop-k : goal.invariant-loop-k
invariant-loop-k l = l.bytes ≡ map byte_of (take l.k l.numbers) ++ drop l.k l.initial.bytes
