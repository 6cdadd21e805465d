-- The calls left, with the notes so far, say what the whole tour says. Assumes nothing.
use mathlib.Core.Path.{◌≡◌}
use lib.ListN.{length, drop}
use Rattle.refuse_lists.specs.Called.{none_called, called_twice}
use Rattle.refuse_lists.proofs.called.repeats.Given as goal

abbrev pub invariant-loop-c : goal.invariant-loop-c
invariant-loop-c l = (length l.called ≡ 64) × (called_twice l.called (drop l.c-index l.tour) ≡ called_twice none_called l.tour)
