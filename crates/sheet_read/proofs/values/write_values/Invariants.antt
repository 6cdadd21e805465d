-- `values::write_values` meets its contract. Assumes nothing.
use mathlib.Core.List.{[], map}
use Rattle.whole.specs.Whole.{fl}
use Rattle.definitions.specs.Reader.{values_of}
use Rattle.definitions.specs.Words.{words_of}
use Rattle.sheet_read.proofs.Writing.{Wrote}
use Rattle.sheet_read.proofs.values.write_values.Given as goal

abbrev pub invariant-loop-i : goal.invariant-loop-i
invariant-loop-i l = Wrote (λ ws. map fl (values_of l.kind ws)) [] (words_of l.bytes) l.initial.out l.out l.i l.n
