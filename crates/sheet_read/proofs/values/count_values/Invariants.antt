-- `values::count_values` meets its contract. The loop's invariant: the values so far and those still to come are all. Assumes nothing.
use Prim.Native.Nat.{◌+◌, ◌≤◌}
use mathlib.Core.Path.{◌≡◌}
use lib.ListN.{length, drop}
use Rattle.definitions.specs.Reader.{values_of}
use Rattle.definitions.specs.Words.{words_of}
use Rattle.sheet_read.proofs.values.count_values.Given as goal

abbrev pub invariant-loop-i : goal.invariant-loop-i
invariant-loop-i l = record {
  few : l.n ≤ l.i;
  same : l.n + length (values_of l.kind (drop l.i (words_of l.bytes))) ≡ length (values_of l.kind (words_of l.bytes));
}
