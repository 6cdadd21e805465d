-- No test passed holds: what is left answers as the whole does. Assumes nothing.
use mathlib.Core.Path.{◌≡◌}
use mathlib.Core.Bool.{Bool}
use mathlib.Core.List.{List}
use Prim.Native.Nat.{ℕ}
use Rattle.std.specs.Iterator.Adapters.{zip_first, zip_second}
use Rattle.std.specs.Slice.Iter.{iter_rest}
use Rattle.basics.specs.Options.{value_or}
use Rattle.definitions.specs.Refusal.{first_fit}
use Rattle.refuse_lists.specs.First.{in_order}
use Rattle.refuse_lists.proofs.first.first_fit.Given as goal

abbrev pub first : List ℕ → List Bool → ℕ
first ns bs = value_or 0 (first_fit (in_order ns bs))

abbrev pub invariant-loop-number : goal.invariant-loop-number
invariant-loop-number l = first (iter_rest (zip_first l.number-iterator)) (iter_rest (zip_second l.number-iterator)) ≡ first l.numbers l.fits
