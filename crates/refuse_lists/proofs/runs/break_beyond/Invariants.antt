-- No break place passed is beyond its run: what is left answers as the whole does. Assumes nothing.
use mathlib.Core.Path.{◌≡◌}
use Rattle.std.specs.Iterator.Adapters.{zip_first, zip_second}
use Rattle.std.specs.Slice.Iter.{iter_rest}
use Rattle.definitions.specs.Refusals.{break_beyond}
use Rattle.refuse_lists.proofs.runs.break_beyond.Given as goal

abbrev pub invariant-loop-e : goal.invariant-loop-e
invariant-loop-e l = break_beyond l.rest l.p (iter_rest (zip_first l.e-iterator)) (iter_rest (zip_second l.e-iterator)) ≡ break_beyond l.rest 0 l.ends l.breaks
